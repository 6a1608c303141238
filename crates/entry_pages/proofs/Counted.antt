-- The counts of a list, with one entry more whose head is known.
use Rattle.entry_pages.proofs.Prelude.{◌≡◌, ℕ, zero, suc, ◌+◌, ◌≤◌, Bool, true, false, cond, List, [], ◌∷◌, ◌++◌, length, take, drop, refl, ap, sym, ◌∙◌, arith}
use Rattle.entry_pages.proofs.Prelude.{Some, slice_get, is_some, ◌==◌, if◌then◌else◌, sum_by, take_more, sum_by-append, get_or_from_slice_get, slice_get_within}
use Rattle.entry_pages.proofs.Prelude.{Entry, Head, Summary, is_of, bytes_by, mark_notes, note_count, summary_of, entry_by, path_by, path_len, unpacked}
use Rattle.outside.specs.declared.trees.Kind.TheVariants as kind

-- the entry of a head
entry_at : (before : List ℕ) (hs : List Head) (bytes : List ℕ) (k : ℕ) (h : Head) → slice_get hs k ≡ Some h →
    (path : List ℕ) × (slice_get (unpacked before hs bytes) k ≡ Some (entry_by h path))
entry_at before [] bytes k h is = absurd cc
entry_at before (g ∷ hs) bytes zero h is =
    let same : g ≡ h = cc in
    (path_by before g bytes, ap (λ (g' : Head). Some (entry_by g' (path_by before g bytes))) same)
entry_at before (g ∷ hs) bytes (suc k) h is = entry_at (path_by before g bytes) hs (drop g.rest bytes) k h is

pub one_more : (hs : List Head) (bytes : List ℕ) (k : ℕ) (h : Head) → slice_get hs k ≡ Some h →
    (path : List ℕ) × (take (k + 1) (unpacked [] hs bytes) ≡ take k (unpacked [] hs bytes) ++ entry_by h path ∷ [])
one_more hs bytes k h is =
    let entries = unpacked [] hs bytes in
    let found = entry_at [] hs bytes k h is in
    let e : Entry = entry_by h found.0 in (
      found.0,
      take_more entries k e (slice_get_within entries k e found.1)
          ∙ ap (λ (y : Entry). take k entries ++ y ∷ []) (get_or_from_slice_get entries k e e found.1),
    )

pub as_long : (before : List ℕ) (hs : List Head) (bytes : List ℕ) → length (unpacked before hs bytes) ≡ length hs
as_long before [] bytes = refl
as_long before (h ∷ hs) bytes = let rest = as_long (path_by before h bytes) hs (drop h.rest bytes) in omega (arith, rest)

pub bit : (b : Bool) → cond b 1 0 ≤ 1
bit true = omega arith
bit false = omega arith

-- a summary that counts a head more
pub record Counts (old new : Summary) (h : Head) : Type 0 where
  pub items : new.items ≡ old.items + (if is_some h.stat then 1 else 0)
  pub dirs : new.dirs ≡ old.dirs + (if is_of kind.Dir h.stat then 1 else 0)
  pub files : new.files ≡ old.files + (if is_of kind.File h.stat then 1 else 0)
  pub links : new.links ≡ old.links + (if is_of kind.Link h.stat then 1 else 0)
  pub others : new.others ≡ old.others + (if is_of kind.Other h.stat then 1 else 0)
  pub bytes : new.bytes ≡ old.bytes + bytes_by h.stat
  pub failed : new.failed ≡ old.failed + (mark_notes h.mark + (if h.unnamed == 0 then 0 else 1) + (if h.far == 0 then 0 else 1))

sum_more : (f : Entry → ℕ) (xs : List Entry) (e : Entry) → sum_by f (xs ++ e ∷ []) ≡ sum_by f xs + f e
sum_more f xs e =
    let one : sum_by f (e ∷ []) ≡ f e = omega arith in
    sum_by-append f xs (e ∷ []) ∙ ap (λ (n : ℕ). sum_by f xs + n) one

abbrev made : ℕ → ℕ → ℕ → ℕ → ℕ → ℕ → ℕ → Summary
made items dirs files links others bytes failed =
    record { items = items; dirs = dirs; files = files; links = links; others = others; bytes = bytes; failed = failed }

same : (a b c d e f g a' b' c' d' e' f' g' : ℕ) → a ≡ a' → b ≡ b' → c ≡ c' → d ≡ d' → e ≡ e' → f ≡ f' → g ≡ g' →
    made a b c d e f g ≡ made a' b' c' d' e' f' g'
same a b c d e f g a' b' c' d' e' f' g' p q r s t u v = cc

pub counted_more : {old new : Summary} {h : Head} (xs ys : List Entry) (path : List ℕ) → Counts old new h → old ≡ summary_of xs →
    ys ≡ xs ++ entry_by h path ∷ [] → new ≡ summary_of ys
counted_more {old} {new} {h} xs ys path k is more =
    let e : Entry = entry_by h path in
    let one = λ (p : Entry → Bool). sum_more (λ (e : Entry). cond (p e) 1 0) xs e in
    let items = k.items ∙ ap (λ (s : Summary). s.items + (if is_some h.stat then 1 else 0)) is ∙ sym (one (λ e. is_some e.stat)) in
    let dirs = k.dirs ∙ ap (λ (s : Summary). s.dirs + (if is_of kind.Dir h.stat then 1 else 0)) is ∙ sym (one (λ e. is_of kind.Dir e.stat)) in
    let files = k.files ∙ ap (λ (s : Summary). s.files + (if is_of kind.File h.stat then 1 else 0)) is ∙ sym (one (λ e. is_of kind.File e.stat)) in
    let links = k.links ∙ ap (λ (s : Summary). s.links + (if is_of kind.Link h.stat then 1 else 0)) is ∙ sym (one (λ e. is_of kind.Link e.stat)) in
    let others = k.others ∙ ap (λ (s : Summary). s.others + (if is_of kind.Other h.stat then 1 else 0)) is ∙ sym (one (λ e. is_of kind.Other e.stat)) in
    let bytes = k.bytes ∙ ap (λ (s : Summary). s.bytes + bytes_by h.stat) is ∙ sym (sum_more (λ e. bytes_by e.stat) xs e) in
    let failed = k.failed ∙ ap (λ (s : Summary). s.failed + note_count e) is ∙ sym (sum_more note_count xs e) in
    same _ _ _ _ _ _ _ _ _ _ _ _ _ _ items dirs files links others bytes failed ∙ ap summary_of (sym more)

-- the bytes of so many paths, and of one more
pub bytes_more : (hs : List Head) (k : ℕ) (h : Head) → slice_get hs k ≡ Some h →
    sum_by path_len (take k hs) + path_len h ≡ sum_by path_len (take (k + 1) hs)
bytes_more hs k h is =
    let one : take (k + 1) hs ≡ take k hs ++ h ∷ [] =
    take_more hs k h (slice_get_within hs k h is) ∙ ap (λ (g : Head). take k hs ++ g ∷ []) (get_or_from_slice_get hs k h h is) in
    let last : sum_by path_len (h ∷ []) ≡ path_len h = omega arith in
    sym (ap (sum_by path_len) one ∙ sum_by-append path_len (take k hs) (h ∷ []) ∙ ap (λ (n : ℕ). sum_by path_len (take k hs) + n) last)
