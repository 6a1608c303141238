-- Which answers of the files make an entry, over all files: those that tell their tree, and those that change. Our own.
use Rattle.std.specs.Prelude.{◌≡◌, ◌⊎◌, true, ℕ, List, Option, Some, None, Ok, Err}
use Rattle.outside.specs.Asked.{Asked, Asks}
use Rattle.outside.specs.Asked as asked
use Rattle.outside.specs.declared.failures.Failed.{Failed}
use Rattle.outside.specs.declared.trees.Kind.TheVariants as kind
use Rattle.outside.specs.declared.trees.LinkError.TheVariants as link
use Rattle.outside.specs.declared.trees.ListError.TheVariants as list
use Rattle.outside.specs.declared.trees.Stat.{Stat}
use Rattle.entry_pages.specs.declared.entries.Entry.{Entry}
use Rattle.entry_pages.specs.declared.entries.Mark.{Mark}
use Rattle.entry_pages.specs.declared.entries.Mark.TheVariants as mark
use Rattle.entry_pages.specs.Entries.{is_of, has_target}

-- a reader gave this answer
pub record WasGiven {S : Type 0} (gives : Asks S) (answer : Asked) : Type 0 where
  pub before : S
  pub after : S
  pub given : gives before answer after

-- the answer by which an entry of this path has its mark. If the mark says so, the stat of the path failed, or the reading of
-- its link. A changed path was a directory by its stat and has no names, or was a link and has no text
abbrev pub MarkedBy : {S : Type 0} → Asks S → List ℕ → Mark → Option Stat → Type 0
MarkedBy gives path mark.Fine stat = WasGiven gives (asked.stat path (Ok stat))
MarkedBy gives path mark.Gone stat = WasGiven gives (asked.stat path (Ok None))
MarkedBy gives path mark.StatFailed stat =
    ((failed : Failed) × WasGiven gives (asked.stat path (Err failed))) ⊎ WasGiven gives (asked.read_link path (Err link.Failed))
MarkedBy gives path mark.ListFailed stat = WasGiven gives (asked.list path (Err list.Failed))
MarkedBy gives path mark.Changed stat =
    ((is_of kind.Dir stat ≡ true) × WasGiven gives (asked.list path (Err list.NotDir)))
    ⊎ ((is_of kind.Link stat ≡ true) × WasGiven gives (asked.read_link path (Err link.NotLink)))

-- a target is the answer of the reading of the link
abbrev pub ReadAs : {S : Type 0} → Asks S → List ℕ → Option (List ℕ) → Type 0
ReadAs gives path None = ⊥
ReadAs gives path (Some text) = WasGiven gives (asked.read_link path (Ok text))

-- an entry has its mark by an answer, and each fine link the text that was read
pub record IsAnswered {S : Type 0} (gives : Asks S) (e : Entry) : Type 0 where
  pub marked : MarkedBy gives e.path e.mark e.stat
  pub read : has_target e.mark e.stat ≡ true → ReadAs gives e.path e.target
