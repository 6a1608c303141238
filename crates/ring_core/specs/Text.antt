-- The line of an event in a trace: its word, then its numbers and its colour or path, each after a space. Our own.
use Rattle.std.specs.Prelude.{ℕ, List, ◌∷◌, ◌++◌, codes}
use Rattle.std.specs.Fmt.{decimal}
use Rattle.path_text.specs.Escape.{escape}
use Rattle.ring_core.specs.declared.states.Colour.{Colour}
use Rattle.ring_core.specs.declared.states.Colour.TheVariants.{White, Black}
use Rattle.ring_core.specs.declared.events.Event.{Event}
use Rattle.ring_core.specs.declared.events.Event.TheVariants.{Handle, Ask, Give, Refuse, Take, TakeNone, Pass, Restart, Conclude, SeeOver}

-- a number after a space
abbrev pub number : ℕ → List ℕ
number n = 32 ∷ decimal n

abbrev pub colour_text : Colour → List ℕ
colour_text White = codes " white"
colour_text Black = codes " black"

-- the line without its line feed
abbrev pub words_of : Event → List ℕ
words_of (Handle rank path kids) = codes "handle" ++ number rank ++ number kids ++ codes " " ++ escape path
words_of (Ask rank victim) = codes "ask" ++ number rank ++ number victim
words_of (Give rank to count) = codes "give" ++ number rank ++ number to ++ number count
words_of (Refuse rank to) = codes "refuse" ++ number rank ++ number to
words_of (Take rank from count) = codes "take" ++ number rank ++ number from ++ number count
words_of (TakeNone rank from) = codes "none" ++ number rank ++ number from
words_of (Pass rank colour) = codes "pass" ++ number rank ++ colour_text colour
words_of (Restart rank) = codes "restart" ++ number rank
words_of (Conclude rank) = codes "conclude" ++ number rank
words_of (SeeOver rank) = codes "over" ++ number rank

abbrev pub line_of : Event → List ℕ
line_of event = words_of event ++ codes "\n"
