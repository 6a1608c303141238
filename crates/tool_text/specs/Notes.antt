-- Failure notes: why a path is named, and the line that says so. The texts are our own.
use Rattle.std.specs.Prelude.{ℕ, false, List, [], ◌∷◌, ◌++◌, map, codes, ◌==◌, if◌then◌else◌}
use Rattle.std.specs.List.{flat_map}
use Rattle.std.specs.Fmt.{decimal}
use Rattle.path_text.specs.Escape.{escape}
use Rattle.entry_pages.specs.declared.entries.Entry.{Entry}
use Rattle.entry_pages.specs.declared.entries.Mark.{Mark}
use Rattle.entry_pages.specs.declared.entries.Mark.TheVariants as mark
use Rattle.tool_text.specs.declared.noting.Why.{Why}
use Rattle.tool_text.specs.declared.noting.Why.TheVariants as why
use Rattle.tool_text.specs.declared.noting.Note.{Note}

-- why a path is named, by its mark
abbrev pub mark_whys : Mark → List Why
mark_whys mark.Fine = []
mark_whys mark.StatFailed = why.FailedStat ∷ []
mark_whys mark.ListFailed = why.FailedList ∷ []
mark_whys mark.Gone = why.Gone ∷ []
mark_whys mark.Changed = why.Changed ∷ []

-- and by a number that is above 0
abbrev pub number_whys : (ℕ → Why) → ℕ → List Why
number_whys name k = if k == 0 then [] else name k ∷ []

-- all reasons to name an entry, in their order
abbrev pub whys_of : Entry → List Why
whys_of e = mark_whys e.mark ++ number_whys why.Unnamed e.unnamed ++ number_whys why.TooLong e.far

-- the notes of an entry
abbrev pub entry_notes : Entry → List Note
entry_notes e = map (λ w. record { path = e.path; why = w; dest = false }) (whys_of e)

-- the notes of the entries, in their order
abbrev pub notes_of : List Entry → List Note
notes_of entries = flat_map entry_notes entries

abbrev pub why_text : Why → List ℕ → List ℕ
why_text why.Gone path = codes "gone " ++ escape path
why_text why.FailedStat path = codes "failed stat " ++ escape path
why_text why.FailedNewer path = codes "failed newer " ++ escape path
why_text why.FailedList path = codes "failed list " ++ escape path
why_text why.Changed path = codes "changed " ++ escape path
why_text (why.Unnamed k) path = codes "unnamed " ++ escape path ++ 32 ∷ decimal k
why_text (why.TooLong k) path = codes "too long " ++ escape path ++ 32 ∷ decimal k
why_text why.FailedRead path = codes "failed read " ++ escape path
why_text why.FailedCopy path = codes "failed copy " ++ escape path
why_text why.Conflict path = codes "conflict " ++ escape path
why_text why.Skipped path = codes "skipped " ++ escape path
why_text why.Parent path = codes "parent " ++ escape path
why_text why.LongTarget path = codes "long target " ++ escape path
why_text why.FailedRemove path = codes "failed remove " ++ escape path
why_text why.NotEmpty path = codes "not empty " ++ escape path

-- the line of a note; it begins with `dest ` where the note is about a destination
abbrev pub note_line : Note → List ℕ
note_line n = (if n.dest then codes "dest " else []) ++ why_text n.why n.path ++ 10 ∷ []

-- a line for each note
abbrev pub note_lines : List Note → List ℕ
note_lines notes = flat_map note_line notes
