-- The two sides of a comparison. After the two lists that mpiFileUtils' dcmp makes of its paths; that nothing is compared below a
-- path whose children are not all known is our own.
use Rattle.std.specs.Prelude.{ℕ, Bool, true, false, not, ◌||◌, ◌&&◌, ◌==◌, List, Option, is_some, nat_eq, IsTrue, All}
use Rattle.std.specs.List.{find, list_any}
use Rattle.std.specs.List.Sorted.{IsStrictlySortedBy}
use Rattle.std.specs.Cmp.Lexicographic.{pointwise}
use Rattle.path_text.specs.Order.{path_cmp, is_under, is_within}
use Rattle.path_text.specs.Graft.{below_of}
use Rattle.entry_pages.specs.declared.entries.Entry.{Entry}
use Rattle.entry_pages.specs.declared.entries.Mark.{Mark}
use Rattle.entry_pages.specs.declared.entries.Mark.TheVariants as mark
use Rattle.flat_list.specs.Spelling.{paths}

-- the list of a walk, and the path from which it was walked
pub record Side : Type 0 where
  pub top : List ℕ
  pub entries : List Entry

abbrev pub side : List ℕ → List Entry → Side
side top entries = record { top = top; entries = entries }

-- the paths ascend strictly, and each is the top or lies under it
pub record IsSide (s : Side) : Type 0 where
  pub ascends : IsStrictlySortedBy path_cmp (paths s.entries)
  pub within : All (λ e. IsTrue (is_within e.path s.top)) s.entries

-- nothing is there
abbrev pub is_gone : Mark → Bool
is_gone mark.Gone = true
is_gone _ = false

-- its children were not listed
abbrev pub is_closed : Mark → Bool
is_closed mark.Fine = false
is_closed mark.Gone = false
is_closed _ = true

-- not all of its children are known
abbrev pub is_partial : Entry → Bool
is_partial e = is_closed e.mark || not (e.far == 0)

-- the entry that a side has at a path below its top, unless it is gone
abbrev pub entry_at : Side → List ℕ → Option Entry
entry_at s p = find (λ e. not (is_gone e.mark) && pointwise nat_eq (below_of e.path s.top) p) s.entries

-- the path lies under one whose children are not all known on this side
abbrev pub is_hidden : Side → List ℕ → Bool
is_hidden s p = list_any (λ e. not (is_gone e.mark) && (is_partial e && is_under p (below_of e.path s.top))) s.entries

-- the path has a row: a side has it, and on neither it lies under one whose children are not all known
abbrev pub is_shown : Side → Side → List ℕ → Bool
is_shown l r p = (is_some (entry_at l p) || is_some (entry_at r p)) && not (is_hidden l p || is_hidden r p)
