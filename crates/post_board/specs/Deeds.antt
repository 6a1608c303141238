-- A rank's call on a board as an event of the ranks' world, with the batch that goes with it.
-- Passing, restarting, concluding and blackening are EWD840's (Dijkstra, Feijen, van Gasteren); asking and giving through mailboxes are our
-- own, after libcircle's work stealing.
use Rattle.std.specs.Prelude.{◌≡◌, ◌≢◌, ℕ, ◌-◌, ◌<◌, ◌⊎◌, nat_lt, true, false, if◌then◌else◌, length, slice_set, Option, Some, None}
use Rattle.ring_core.specs.World.{darker}
use Rattle.ring_core.specs.declared.states.Colour.{Colour}
use Rattle.ring_core.specs.declared.states.Colour.TheVariants.{White, Black}
use Rattle.ring_core.specs.declared.states.Token.TheVariants.{At, Over}
use Rattle.ring_core.specs.declared.events.Event.{Event}
use Rattle.ring_core.specs.declared.events.Event.TheVariants.{Ask, Give, Refuse, Take, TakeNone, Pass, Restart, Conclude, SeeOver}
use Rattle.ring_core.specs.Picture.{Happens}
use Rattle.post_board.specs.Shown.{Strings}
use Rattle.post_board.specs.Told.{vacant, asked, full, empty, Place, Told, place, put_place, is_stopped, picture, Sound}

pub data Deed : Type 0 where
  ask : ℕ → Deed
  give : ℕ → Strings → Deed
  refuse : ℕ → Deed
  take : ℕ → Strings → Deed
  take_none : ℕ → Deed
  pass : Colour → Deed
  restart : Deed
  conclude : Deed
  see_over : Deed

-- the event that a deed of the rank me is
abbrev pub event_of : ℕ → Deed → Event
event_of me (ask victim) = Ask me victim
event_of me (give to batch) = Give me to (length batch)
event_of me (refuse to) = Refuse me to
event_of me (take from batch) = Take me from (length batch)
event_of me (take_none from) = TakeNone me from
event_of me (pass colour) = Pass me colour
event_of me restart = Restart me
event_of me conclude = Conclude me
event_of me see_over = SeeOver me

abbrev pub blackened : Place → ℕ → ℕ → Place
blackened x me to = record x { colour = (if nat_lt me to then Black else x.colour) }

-- the told picture after a deed
abbrev pub told_after : ℕ → Deed → Told → Told
told_after me (ask victim) t = put_place t me (record (place t me) { busy = false; mail = asked victim })
told_after me (give to batch) t = put_place (put_place t me (blackened (place t me) me to)) to (record (place t to) { mail = full me batch })
told_after me (refuse to) t = put_place t to (record (place t to) { mail = empty me })
told_after me (take from batch) t = put_place t me (record (place t me) { busy = true; tried = false; mail = vacant })
told_after me (take_none from) t = put_place t me (record (place t me) { tried = true; mail = vacant })
told_after me (pass colour) t = record (put_place t me (record (place t me) { colour = White })) { token = At (me - 1) colour }
told_after me restart t = record (put_place t me (record (place t me) { busy = false; colour = White })) { token = At (length t.places - 1) White }
told_after me conclude t = record (put_place t me (record (place t me) { ended = true })) { token = Over }
told_after me see_over t = put_place t me (record (place t me) { ended = true })

-- the rank is one of the told ones, and has not ended
abbrev pub Acts : ℕ → Told → Type 0
Acts me t = (me < length t.places) × ((place t me).ended ≡ false)

abbrev pub Other : ℕ → ℕ → Told → Type 0
Other me r t = (r < length t.places) × (me ≢ r)

-- when a deed may be done
abbrev pub Legal : ℕ → Deed → Told → Type 0
Legal me (ask victim) t = Acts me t × Other me victim t × ((place t me).mail ≡ vacant)
Legal me (give to batch) t = Acts me t × Other me to t × ((place t me).busy ≡ true) × ((place t to).mail ≡ asked me)
Legal me (refuse to) t = Acts me t × Other me to t × ((place t to).mail ≡ asked me)
Legal me (take from batch) t = Acts me t × Other me from t × ((place t me).mail ≡ full from batch)
Legal me (take_none from) t = Acts me t × Other me from t × ((place t me).mail ≡ empty from)
Legal me (pass colour) t =
    Acts me t × (0 < me) × ((place t me).busy ≡ false) × ((place t me).mail ≡ vacant)
    × ((c : Colour) × (t.token ≡ At me c) × (colour ≡ darker (place t me).colour c)) × ((place t me).tried ≡ true)
Legal me restart t =
    Acts me t × (me ≡ 0) × ((length t.places ≡ 1) ⊎ (((place t me).busy ≡ false) × ((place t me).tried ≡ true))) × ((place t me).mail ≡ vacant)
    × ((c : Colour) × (t.token ≡ At me c) × (darker (place t me).colour c ≡ Black))
Legal me conclude t =
    Acts me t × (me ≡ 0) × ((place t me).busy ≡ false) × ((place t me).mail ≡ vacant) × (t.token ≡ At me White) × ((place t me).colour ≡ White)
    × ((length t.places ≡ 1) ⊎ ((place t me).tried ≡ true))
Legal me see_over t = Acts me t × (t.token ≡ Over)

-- a board that tells its places tells them after the deed too, which was legal; one that tells none still tells none
abbrev pub Tells : ℕ → Deed → Option Told → Option Told → Type 0
Tells me deed None after = after ≡ None
Tells me deed (Some t) after = Legal me deed t × (after ≡ Some (told_after me deed t))

-- the told picture stays the same, and P holds of it
abbrev pub Stays : (Told → Type 0) → Option Told → Option Told → Type 0
Stays P None after = after ≡ None
Stays P (Some t) after = P t × (after ≡ Some t)

-- a legal deed is its event, on the picture
abbrev pub DeedsAreEvents : Type 0
DeedsAreEvents =
    (me : ℕ) (deed : Deed) (t : Told) → Legal me deed t
    → Happens (length t.places) (picture t) t.token (event_of me deed) (picture (told_after me deed t)) (told_after me deed t).token

-- a legal deed keeps all facts of a sound picture, the token invariant among them
abbrev pub DeedsKeepSound : Type 0
DeedsKeepSound = (me : ℕ) (deed : Deed) (t : Told) → Legal me deed t → Sound t → Sound (told_after me deed t)

-- calls that are not events of EWD840: a rank takes its request back from a rank that has stopped, tells all to halt, or stops. Our own.
pub data Late : Type 0 where
  withdraw : ℕ → Late
  halt : Late
  stop : Late

-- the told picture after it
abbrev pub told_late : ℕ → Late → Told → Told
told_late me (withdraw from) t = put_place t me (record (place t me) { tried = true; mail = vacant })
told_late me halt t = record t { halt = true }
told_late me stop t = record t { stops = slice_set t.stops me true }

-- when it may be done: a rank that has stopped has not ended
abbrev pub LegalLate : ℕ → Late → Told → Type 0
LegalLate me (withdraw from) t =
    Acts me t × Other me from t × ((place t me).mail ≡ asked from) × (is_stopped t from ≡ true) × ((place t from).ended ≡ false)
LegalLate me halt t = Acts me t
LegalLate me stop t = Acts me t × ((place t me).mail ≡ vacant) × (me < length t.stops) × (is_stopped t me ≡ false)

-- as `Tells`
abbrev pub TellsLate : ℕ → Late → Option Told → Option Told → Type 0
TellsLate me late None after = after ≡ None
TellsLate me late (Some t) after = LegalLate me late t × (after ≡ Some (told_late me late t))

-- if it is legal, it keeps all facts of a sound picture, the token invariant among them
abbrev pub LateKeepsSound : Type 0
LateKeepsSound = (me : ℕ) (late : Late) (t : Told) → LegalLate me late t → Sound t → Sound (told_late me late t)
