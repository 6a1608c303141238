-- Entries packed: each path as the number of bytes that it shares with the one before, and its rest. This is the incremental encoding of
-- sorted lists (front coding), as in the databases that updatedb makes for locate. Pages, at whose front a path stands whole, are our own.
use Rattle.std.specs.Prelude.{ℕ, ◌+◌, ◌*◌, ◌%◌, List, [], ◌∷◌, ◌++◌, length, take, drop, if◌then◌else◌, ◌==◌, nat_eq, nat_lt}
use Rattle.std.specs.Prelude.{◌≡◌, ◌<◌, Option, false, slice_index_or}
use Rattle.std.specs.List.{common_prefix_len, position}
use Rattle.std.specs.Cmp.Lexicographic.{pointwise}
use Rattle.std.specs.Ordering.{is_lt}
use Rattle.path_text.specs.Order.{path_cmp}
use Rattle.entry_pages.specs.declared.entries.Entry.{Entry}
use Rattle.entry_pages.specs.declared.entries.Mark.{Mark}
use Rattle.outside.specs.declared.trees.Stat.{Stat}

-- the parts of an entry that are kept beside the bytes of its path
pub record Head : Type 0 where
  pub stat : Option Stat
  pub unnamed : ℕ
  pub far : ℕ
  pub shared : ℕ
  pub rest : ℕ
  pub mark : Mark
  pub target : Option (List ℕ)

-- how many bytes a path shares with the one before: at the front of a page none
abbrev pub shared_by : ℕ → List ℕ → List ℕ → ℕ
shared_by place before path = if place % 256 == 0 then 0 else common_prefix_len nat_eq before path

abbrev pub rest_by : ℕ → List ℕ → List ℕ → List ℕ
rest_by place before path = drop (shared_by place before path) path

abbrev pub head_from : Entry → ℕ → Head
head_from e shared = record {
  stat = e.stat;
  unnamed = e.unnamed;
  far = e.far;
  shared = shared;
  rest = length (drop shared e.path);
  mark = e.mark;
  target = e.target;
}

abbrev pub head_by : ℕ → List ℕ → Entry → Head
head_by place before e = head_from e (shared_by place before e.path)

-- the heads, and the rests joined, of entries from a place on, after a path
abbrev pub heads_from : ℕ → List ℕ → List Entry → List Head
heads_from place before [] = []
heads_from place before (e ∷ es) = head_by place before e ∷ heads_from (place + 1) e.path es

abbrev pub rests_from : ℕ → List ℕ → List Entry → List ℕ
rests_from place before [] = []
rests_from place before (e ∷ es) = rest_by place before e.path ++ rests_from (place + 1) e.path es

-- where the rests of each page begin, with one entry more at a place, and where its rest begins
abbrev pub starts_by : ℕ → ℕ → List ℕ → List ℕ
starts_by place at starts = if place % 256 == 0 then starts ++ at ∷ [] else starts

-- the rests of a page, joined
abbrev pub page_of : ℕ → List Entry → List ℕ
page_of k entries = rests_from 0 [] (take 256 (drop (256 * k) entries))

-- the path of a head, and its entry
abbrev pub path_by : List ℕ → Head → List ℕ → List ℕ
path_by before h bytes = take h.shared before ++ take h.rest bytes

abbrev pub entry_by : Head → List ℕ → Entry
entry_by h path = record { path = path; stat = h.stat; mark = h.mark; unnamed = h.unnamed; far = h.far; target = h.target }

-- how many bytes the path of a head has
abbrev pub path_len : Head → ℕ
path_len h = h.shared + h.rest

-- the entries of heads and rests
abbrev pub unpacked : List ℕ → List Head → List ℕ → List Entry
unpacked before [] bytes = []
unpacked before (h ∷ hs) bytes = entry_by h (path_by before h bytes) ∷ unpacked (path_by before h bytes) hs (drop h.rest bytes)

-- the path of the last entry
abbrev pub last_path : List ℕ → List Entry → List ℕ
last_path before [] = before
last_path before (e ∷ es) = last_path e.path es

-- how many bytes a path of some shared bytes and a rest shares with a wanted one, if the path before shares `same` with it
abbrev pub same_after : ℕ → ℕ → List ℕ → List ℕ → ℕ
same_after same shared rest wanted = if nat_lt same shared then same else shared + common_prefix_len nat_eq rest (drop shared wanted)

-- the first place of a path
abbrev pub place_of : List ℕ → List Entry → Option ℕ
place_of path entries = position (λ e. pointwise nat_eq e.path path) entries

-- the entry after a place does not come before that at the place
abbrev pub RisesAt : List Entry → ℕ → Type 0
RisesAt entries k = (d : Entry) → k + 1 < length entries →
    is_lt (path_cmp (slice_index_or entries (k + 1) d).path (slice_index_or entries k d).path) ≡ false
