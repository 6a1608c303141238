-- The fields of a packed list, and the state of one that goes over it.
use Rattle.std.specs.Prelude.{◌≡◌, ℕ, ◌+◌, ◌*◌, ◌<◌, ◌≤◌, length, take, drop, nat_eq, ◌&&◌, Bool, List, [], true, is_none}
use Rattle.std.specs.Prelude.{Some, slice_get}
use Rattle.std.specs.List.{list_all, common_prefix_len, position_or_len, sum_by}
use Rattle.std.specs.Cmp.Lexicographic.{pointwise}
use Rattle.std.specs.Str.{is_utf8}
use Rattle.path_text.specs.Path.{refusal}
use Rattle.entry_pages.specs.declared.entries.Entry.{Entry}
use Rattle.entry_pages.specs.Pack.{Head}
use Rattle.entry_pages.specs.Pack.{heads_from, rests_from, last_path, unpacked}

-- a path's bytes
abbrev pub is_path : List ℕ → Bool
is_path path = is_none (refusal path) && is_utf8 path

-- how many bytes the rests of some heads have
abbrev pub rest_sum : List Head → ℕ
rest_sum hs = sum_by (λ h. h.rest) hs

-- where the bytes of each page begin, by the number of bytes that are kept of a head
pub record AreStarts (weight : Head → ℕ) (starts : List ℕ) (hs : List Head) : Type 0 where
  pub enough : length hs ≤ 256 * length starts
  pub some : 256 * length starts < length hs + 256
  pub each : (k : ℕ) → k < length starts → slice_get starts k ≡ Some (sum_by weight (take (256 * k) hs))

-- the fields are the entries packed
pub record IsKept (hs : List Head) (starts bytes path : List ℕ) (entries : List Entry) : Type 0 where
  pub paths : list_all (λ e. is_path e.path) entries ≡ true
  pub heads : heads_from 0 [] entries ≡ hs
  pub rests : rests_from 0 [] entries ≡ bytes
  pub last : last_path [] entries ≡ path
  pub begins : AreStarts (λ h. h.rest) starts hs

-- the state after some entries and some bytes, which holds the path passed last; at the front of a page any path
pub record IsAt (hs : List Head) (bytes : List ℕ) (passed at : ℕ) (held : List ℕ) (entries : List Entry) : Type 0 where
  pub paths : list_all (λ e. is_path e.path) entries ≡ true
  pub many : length entries ≡ length hs
  pub heads : heads_from passed held (drop passed entries) ≡ drop passed hs
  pub rests : rests_from passed held (drop passed entries) ≡ drop at bytes
  pub within : passed ≤ length hs
  pub inside : at ≤ length bytes

-- the state of a search after some entries and some bytes, if none of these entries has the wanted path
pub record IsSeek (hs : List Head) (bytes wanted : List ℕ) (k at same : ℕ) (entries : List Entry) : Type 0 where
  pub many : length entries ≡ length hs
  pub heads : heads_from k (last_path [] (take k entries)) (drop k entries) ≡ drop k hs
  pub rests : rests_from k (last_path [] (take k entries)) (drop k entries) ≡ drop at bytes
  pub inside : at ≤ length bytes
  pub shared : same ≡ common_prefix_len nat_eq (last_path [] (take k entries)) wanted
  pub none : position_or_len (λ e. pointwise nat_eq e.path wanted) entries ≡ k + position_or_len (λ e. pointwise nat_eq e.path wanted) (drop k entries)

-- a place and a byte before which one may begin: the front of a page, with any path
abbrev pub IsBefore : List Head → List ℕ → ℕ → ℕ → Type 0
IsBefore hs bytes passed at = (held : List ℕ) → IsAt hs bytes passed at held (unpacked [] hs bytes)
