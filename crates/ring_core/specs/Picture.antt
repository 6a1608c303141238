-- The picture of a world: the world without the numbers of strings. Also the effect of an event on a picture, when a picture is quiet, and
-- the token invariant of a picture.
-- Busy and colour are EWD840's; the mailbox is our own. A board whose ranks act at the same time has a picture too, though no world.
use Rattle.std.specs.Prelude.{◌≡◌, ◌≢◌, ℕ, ◌-◌, ◌<◌, ◌==◌, ◌⊎◌, nat_lt, Bool, true, false, if◌then◌else◌, List, length}
use Rattle.ring_core.specs.declared.states.Colour.{Colour}
use Rattle.ring_core.specs.declared.states.Colour.TheVariants.{White, Black}
use Rattle.ring_core.specs.declared.states.Desk.{Desk}
use Rattle.ring_core.specs.declared.states.Desk.TheVariants.{Rest, Asked, Full, Empty}
use Rattle.ring_core.specs.declared.states.Token.{Token}
use Rattle.ring_core.specs.declared.states.Token.TheVariants.{At, Over}
use Rattle.ring_core.specs.declared.states.RankState.{RankState}
use Rattle.ring_core.specs.declared.events.Event.{Event}
use Rattle.ring_core.specs.declared.events.Event.TheVariants.{Handle, Ask, Give, Refuse, Take, TakeNone, Pass, Restart, Conclude, SeeOver}
use Rattle.ring_core.specs.World.{Seen, rank_of, darker}
use Rattle.ring_core.specs.Step.{is_busy, after}
use Rattle.ring_core.specs.Invariant.{Quiet, TokenInvariant}

-- a mailbox, without the number of strings
pub data Mailbox : Type 0 where
  at_rest : Mailbox
  asked_of : ℕ → Mailbox
  filled_by : ℕ → Mailbox
  refused_by : ℕ → Mailbox

abbrev pub is_filled : Mailbox → Bool
is_filled (filled_by from) = true
is_filled _ = false

-- one rank, busy or not, without its number of strings
pub record RankPicture : Type 0 where
  pub busy : Bool
  pub colour : Colour
  pub tried : Bool
  pub ended : Bool
  pub mailbox : Mailbox

-- the ranks by their numbers
abbrev pub Picture : Type 0
Picture = ℕ → RankPicture

module _ {A : Type 0} where
  -- the same, but for x at i
  abbrev pub put : (ℕ → A) → ℕ → A → ℕ → A
  put f i x k = if k == i then x else f k

-- all is as before, but for rank r, which is x
abbrev pub Becomes : Picture → ℕ → RankPicture → Picture → Type 0
Becomes p r x q = (k : ℕ) → q k ≡ put p r x k

-- the rank may act: it is one of the n, and has not ended
abbrev pub Acts : ℕ → Picture → ℕ → Type 0
Acts n p rank = (rank < n) × ((p rank).ended ≡ false)

-- the other rank that the event names
abbrev pub Other : ℕ → ℕ → ℕ → Type 0
Other n rank other = (other < n) × (rank ≢ other)

-- a rank that gives to a higher one turns black
abbrev pub gave : RankPicture → ℕ → ℕ → RankPicture
gave x rank to = record x { colour = (if nat_lt rank to then Black else x.colour) }

-- the event is legal if n ranks have the picture p and the token t, and may leave the picture q and the token u.
-- A picture has no numbers of strings, so `Handle` may leave the rank busy or not. `Ask`, and `Restart` with one rank, may find the rank
-- busy: they also say that it has no string any more
abbrev pub Happens : ℕ → Picture → Token → Event → Picture → Token → Type 0
Happens n p t (Handle rank path kids) q u =
    Acts n p rank × ((p rank).busy ≡ true) × ((b : Bool) × Becomes p rank (record (p rank) { busy = b }) q) × (u ≡ t)
Happens n p t (Ask rank victim) q u =
    Acts n p rank × Other n rank victim × ((p rank).mailbox ≡ at_rest)
    × Becomes p rank (record (p rank) { busy = false; mailbox = asked_of victim }) q × (u ≡ t)
Happens n p t (Give rank to count) q u =
    Acts n p rank × Other n rank to × ((p rank).busy ≡ true) × ((p to).mailbox ≡ asked_of rank)
    × Becomes (put p rank (gave (p rank) rank to)) to (record (p to) { mailbox = filled_by rank }) q × (u ≡ t)
Happens n p t (Refuse rank to) q u =
    Acts n p rank × Other n rank to × ((p to).mailbox ≡ asked_of rank)
    × Becomes p to (record (p to) { mailbox = refused_by rank }) q × (u ≡ t)
Happens n p t (Take rank from count) q u =
    Acts n p rank × Other n rank from × ((p rank).mailbox ≡ filled_by from)
    × Becomes p rank (record (p rank) { busy = true; tried = false; mailbox = at_rest }) q × (u ≡ t)
Happens n p t (TakeNone rank from) q u =
    Acts n p rank × Other n rank from × ((p rank).mailbox ≡ refused_by from)
    × Becomes p rank (record (p rank) { tried = true; mailbox = at_rest }) q × (u ≡ t)
Happens n p t (Pass rank colour) q u =
    Acts n p rank × (0 < rank) × ((p rank).busy ≡ false) × ((p rank).mailbox ≡ at_rest) × ((p rank).tried ≡ true)
    × ((c : Colour) × (t ≡ At rank c) × (colour ≡ darker (p rank).colour c))
    × Becomes p rank (record (p rank) { colour = White }) q × (u ≡ At (rank - 1) colour)
Happens n p t (Restart rank) q u =
    Acts n p rank × (rank ≡ 0) × ((p rank).mailbox ≡ at_rest) × ((n ≡ 1) ⊎ (((p rank).busy ≡ false) × ((p rank).tried ≡ true)))
    × ((c : Colour) × (t ≡ At rank c) × (darker (p rank).colour c ≡ Black))
    × Becomes p rank (record (p rank) { busy = false; colour = White }) q × (u ≡ At (n - 1) White)
Happens n p t (Conclude rank) q u =
    Acts n p rank × (rank ≡ 0) × ((p rank).busy ≡ false) × ((p rank).mailbox ≡ at_rest) × ((n ≡ 1) ⊎ ((p rank).tried ≡ true))
    × (t ≡ At rank White) × ((p rank).colour ≡ White)
    × Becomes p rank (record (p rank) { ended = true }) q × (u ≡ Over)
Happens n p t (SeeOver rank) q u =
    Acts n p rank × (t ≡ Over) × Becomes p rank (record (p rank) { ended = true }) q × (u ≡ t)

-- the rank is busy, or strings lie in its mailbox
abbrev pub Active : ℕ → Picture → ℕ → Type 0
Active n p r = (r < n) × (((p r).busy ≡ true) ⊎ (is_filled (p r).mailbox ≡ true))

abbrev pub BlackRank : ℕ → Picture → ℕ → Type 0
BlackRank n p r = (r < n) × ((p r).colour ≡ Black)

-- no rank is busy, and no mailbox holds strings
abbrev pub IsQuiet : ℕ → Picture → Type 0
IsQuiet n p = Quiet (Active n p)

-- the token invariant of a picture
abbrev pub PictureInvariant : ℕ → Picture → Token → Type 0
PictureInvariant n p t = TokenInvariant (Active n p) (BlackRank n p) t

abbrev pub mailbox_of : Desk → Mailbox
mailbox_of Rest = at_rest
mailbox_of (Asked of) = asked_of of
mailbox_of (Full by count) = filled_by by
mailbox_of (Empty by) = refused_by by

abbrev pub pictured : RankState → RankPicture
pictured x = record { busy = is_busy x; colour = x.colour; tried = x.tried; ended = x.ended; mailbox = mailbox_of x.desk }

-- the picture of a world
abbrev pub picture_of : List RankState → Picture
picture_of ranks r = pictured (rank_of ranks r)

-- the token invariant of a world
abbrev pub WorldInvariant : Seen → Type 0
WorldInvariant world = PictureInvariant (length world.0) (picture_of world.0) world.1

-- the event leads from the picture of the world to that of the world after it
abbrev pub IsStepOfPicture : Seen → Event → Type 0
IsStepOfPicture world event = Happens (length world.0) (picture_of world.0) world.1 event (picture_of (after world event).0) (after world event).1
