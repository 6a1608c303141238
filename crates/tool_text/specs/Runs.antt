-- What is told of a run: its events, what each rank did, and the counts as they rose. The line of an event is that of the ring; the other texts are our own.
use Rattle.std.specs.Prelude.{ℕ, ◌+◌, List, [], ◌∷◌, ◌++◌, codes}
use Rattle.std.specs.List.{flat_map}
use Rattle.std.specs.Fmt.{decimal}
use Rattle.ring_core.specs.Text.{line_of}
use Rattle.ring_core.specs.declared.events.Event.{Event}
use Rattle.circle_run.specs.declared.outcomes.Share.{Share}

-- a line for each event, in their order
abbrev pub trace_lines : List Event → List ℕ
trace_lines events = flat_map line_of events

-- the line of what a rank did
abbrev pub share_line : ℕ → Share → List ℕ
share_line rank share =
    codes "rank " ++ decimal rank
    ++ codes " handled " ++ decimal share.handled
    ++ codes " given " ++ decimal share.given
    ++ codes " taken " ++ decimal share.taken ++ 10 ∷ []

-- the lines of the ranks from this number on
abbrev pub share_lines_from : ℕ → List Share → List ℕ
share_lines_from rank [] = []
share_lines_from rank (share ∷ shares) = share_line rank share ++ share_lines_from (rank + 1) shares

-- a line for each rank, from 0 on
abbrev pub share_lines : List Share → List ℕ
share_lines shares = share_lines_from 0 shares

-- the line of a count
abbrev pub progress_line : ℕ → List ℕ
progress_line sum = codes "progress " ++ decimal sum ++ 10 ∷ []

-- a line for each count, in their order
abbrev pub progress_lines : List ℕ → List ℕ
progress_lines sums = flat_map progress_line sums
