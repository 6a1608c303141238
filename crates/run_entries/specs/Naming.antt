-- What is named of a run's looks, of the entries of its walks, and of its copies and removals. Our own.
use Rattle.std.specs.Prelude.{ℕ, false, Bool, List, [], ◌∷◌, ◌++◌, map}
use Rattle.std.specs.List.{flat_map}
use Rattle.entry_pages.specs.declared.entries.Entry.{Entry}
use Rattle.level_work.specs.declared.items.Fate.{Fate}
use Rattle.level_work.specs.declared.items.Fate.TheVariants as fate
use Rattle.path_looks.specs.declared.looks.Look.{Look}
use Rattle.path_looks.specs.declared.looks.Seen.{Seen}
use Rattle.path_looks.specs.declared.looks.Seen.TheVariants as seen
use Rattle.tool_text.specs.declared.noting.Note.{Note}
use Rattle.tool_text.specs.declared.noting.Why.{Why}
use Rattle.tool_text.specs.declared.noting.Why.TheVariants as why
use Rattle.tool_text.specs.Notes.{notes_of}

-- why a path is named that was looked at
abbrev pub look_whys : Seen → List Why
look_whys (seen.At mtime) = []
look_whys seen.Absent = why.Gone ∷ []
look_whys seen.Failed = why.FailedNewer ∷ []

-- the notes of a path, one for each reason
abbrev pub notes_by : List ℕ → List Why → List Note
notes_by path whys = map (λ w. record { path = path; why = w; dest = false }) whys

abbrev pub look_notes : Look → List Note
look_notes look = notes_by look.path (look_whys look.seen)

-- why an entry is named that was to be copied. A copy never finds a directory that is not empty
abbrev pub copy_whys : Fate → List Why
copy_whys fate.Done = []
copy_whys fate.Failed = why.FailedCopy ∷ []
copy_whys fate.Conflict = why.Conflict ∷ []
copy_whys fate.Skipped = why.Skipped ∷ []
copy_whys fate.ParentFailed = why.Parent ∷ []
copy_whys fate.TooLong = why.LongTarget ∷ []
copy_whys fate.Changed = why.Changed ∷ []
copy_whys fate.NotEmpty = why.Changed ∷ []

-- why a path is named that was to be removed. A removal has no other fates than the first four
abbrev pub removal_whys : Fate → List Why
removal_whys fate.Done = []
removal_whys fate.Failed = why.FailedRemove ∷ []
removal_whys fate.NotEmpty = why.NotEmpty ∷ []
removal_whys fate.Changed = why.Changed ∷ []
removal_whys fate.Conflict = why.Changed ∷ []
removal_whys fate.Skipped = why.Changed ∷ []
removal_whys fate.ParentFailed = why.Changed ∷ []
removal_whys fate.TooLong = why.Changed ∷ []

-- what is to be named of paths with their fates
abbrev pub copy_notes : List (List ℕ × Fate) → List Note
copy_notes rows = flat_map (λ row. notes_by row.0 (copy_whys row.1)) rows

abbrev pub removal_notes : List (List ℕ × Fate) → List Note
removal_notes rows = flat_map (λ row. notes_by row.0 (removal_whys row.1)) rows

-- the notes of some paths, for one reason
abbrev pub path_notes : Why → List (List ℕ) → List Note
path_notes reason paths = map (λ p. record { path = p; why = reason; dest = false }) paths

-- the entries of a walk or of a list file, and whether they are those of a destination
pub record Listing : Type 0 where
  pub entries : List Entry
  pub dest : Bool

-- a note, of a destination or not
abbrev pub on_side : Bool → Note → Note
on_side dest note = record note { dest = dest }

-- what is to be named of them
abbrev pub listing_notes : Listing → List Note
listing_notes listing = map (on_side listing.dest) (notes_of listing.entries)

-- all that is to be named: other notes, and those of each listing
abbrev pub failures_of : List Note → List Listing → List Note
failures_of others listings = others ++ flat_map listing_notes listings

-- of a run that looks at paths and lists entries once, chosen or not
abbrev pub failures_in : List Look → List Entry → List Note
failures_in looks entries = failures_of (flat_map look_notes looks) (record { entries = entries; dest = false } ∷ [])
