-- The book of a rank: the events, if they are kept, and its counts. Our own.
use Rattle.std.specs.Prelude.{◌+◌, ◌-◌, ◌^◌, min, List, [], ◌∷◌}
use Rattle.ring_core.specs.declared.events.Event.{Event}
use Rattle.ring_core.specs.declared.events.Event.TheVariants.{Handle, Give, Take}
use Rattle.circle_run.specs.declared.outcomes.Share.{Share}

-- the counts with one event more. A count stops at the greatest value of its type
abbrev pub counted_one : Event → Share → Share
counted_one (Handle rank path kids) s = record s { handled = min (s.handled + 1) (2 ^ 64 - 1) }
counted_one (Give rank to count) s = record s { given = min (s.given + count) (2 ^ 128 - 1) }
counted_one (Take rank from count) s = record s { taken = min (s.taken + count) (2 ^ 128 - 1) }
counted_one _ s = s

abbrev pub counted : List Event → Share → Share
counted [] s = s
counted (event ∷ events) s = counted events (counted_one event s)
