-- The order of failure notes. It is our own: path order, so that what failed reads as the list does, and under one path the reasons as `Why` has them.
use Rattle.std.specs.Prelude.{◌≡◌, ℕ, ◌<◌, ◌↔◌, List, [], length, map}
use Rattle.std.specs.List.{Contains}
use Rattle.std.specs.List.Sorted.{IsStrictlySortedBy}
use Rattle.std.specs.Ordering.{on, nat_cmp, bool_cmp, then_cmp}
use Rattle.std.specs.declared.cmp.Ordering.{Ordering}
use Rattle.path_text.specs.Order.{path_cmp}
use Rattle.entry_pages.specs.declared.entries.Entry.{Entry}
use Rattle.tool_text.specs.declared.noting.Why.{Why}
use Rattle.tool_text.specs.declared.noting.Why.TheVariants as why
use Rattle.tool_text.specs.declared.noting.Note.{Note}
use Rattle.tool_text.specs.Notes.{notes_of}

-- the place of a reason among the reasons
abbrev pub why_place : Why → ℕ
why_place why.Gone = 0
why_place why.FailedStat = 1
why_place why.FailedNewer = 2
why_place why.FailedList = 3
why_place why.Changed = 4
why_place (why.Unnamed k) = 5
why_place (why.TooLong k) = 6
why_place why.FailedRead = 7
why_place why.FailedCopy = 8
why_place why.Conflict = 9
why_place why.Skipped = 10
why_place why.Parent = 11
why_place why.LongTarget = 12
why_place why.FailedRemove = 13
why_place why.NotEmpty = 14

-- the number that a reason tells, or 0
abbrev pub why_number : Why → ℕ
why_number why.Gone = 0
why_number why.FailedStat = 0
why_number why.FailedNewer = 0
why_number why.FailedList = 0
why_number why.Changed = 0
why_number (why.Unnamed k) = k
why_number (why.TooLong k) = k
why_number why.FailedRead = 0
why_number why.FailedCopy = 0
why_number why.Conflict = 0
why_number why.Skipped = 0
why_number why.Parent = 0
why_number why.LongTarget = 0
why_number why.FailedRemove = 0
why_number why.NotEmpty = 0

abbrev pub why_cmp : Why → Why → Ordering
why_cmp = then_cmp (on why_place nat_cmp) (on why_number nat_cmp)

-- the path decides, and of one path those about a destination come last, and then the reason decides
abbrev pub note_cmp : Note → Note → Ordering
note_cmp = then_cmp (on (λ n. n.path) path_cmp) (then_cmp (on (λ n. n.dest) bool_cmp) (on (λ n. n.why) why_cmp))

-- the given notes in their order, each once
pub record AreInOrder (given notes : List Note) : Type 0 where
  pub ascend : IsStrictlySortedBy note_cmp notes
  -- none is lost, and none is added
  pub same : (n : Note) → Contains given n ↔ Contains notes n

-- the notes of entries in path order stand in theirs
abbrev pub NotesStandInOrder : Type 0
NotesStandInOrder = (entries : List Entry) → IsStrictlySortedBy path_cmp (map (λ e. e.path) entries) → AreInOrder (notes_of entries) (notes_of entries)

-- notes have one order
abbrev pub OrderIsUnique : Type 0
OrderIsUnique = (given a b : List Note) → AreInOrder given a → AreInOrder given b → a ≡ b

-- where there are no notes there are none in order, and else there are some
pub record NothingToOrder : Type 0 where
  pub none : (notes : List Note) → AreInOrder [] notes → notes ≡ []
  pub some : (given notes : List Note) → 0 < length given → AreInOrder given notes → 0 < length notes
