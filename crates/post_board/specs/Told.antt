-- The facts that a board may tell: its picture, with the batch in each mailbox. Busy, colour and token are EWD840's (Dijkstra, Feijen, van Gasteren);
-- the mailboxes are our own.
use Rattle.std.specs.Prelude.{◌≡◌, ◌≢◌, ℕ, ◌<◌, Bool, true, false, List, length, slice_set, slice_index_or}
use Rattle.ring_core.specs.Picture.{Mailbox, at_rest, asked_of, filled_by, refused_by, RankPicture, Picture, PictureInvariant}
use Rattle.ring_core.specs.declared.states.Colour.{Colour}
use Rattle.ring_core.specs.declared.states.Colour.TheVariants.{White}
use Rattle.ring_core.specs.declared.states.Token.{Token}
use Rattle.ring_core.specs.declared.states.Token.TheVariants.{At, Over}
use Rattle.post_board.specs.Shown.{Strings}

-- a mailbox, with the batch that lies in it
pub data Mail : Type 0 where
  vacant : Mail
  asked : ℕ → Mail
  full : ℕ → Strings → Mail
  empty : ℕ → Mail

-- one rank as it is told
pub record Place : Type 0 where
  pub busy : Bool
  pub colour : Colour
  pub tried : Bool
  pub ended : Bool
  pub mail : Mail

-- all ranks by their numbers, the token, whether all are to halt, and which ranks have stopped
pub record Told : Type 0 where
  pub places : List Place
  pub token : Token
  pub halt : Bool
  pub stops : List Bool

abbrev pub no_place : Place
no_place = record { busy = false; colour = White; tried = false; ended = false; mail = vacant }

abbrev pub place : Told → ℕ → Place
place t r = slice_index_or t.places r no_place

abbrev pub put_place : Told → ℕ → Place → Told
put_place t r x = record t { places = slice_set t.places r x }

-- whether the rank r has stopped
abbrev pub is_stopped : Told → ℕ → Bool
is_stopped t r = slice_index_or t.stops r false

abbrev pub is_full : Mail → Bool
is_full (full from batch) = true
is_full _ = false

abbrev pub mailbox : Mail → Mailbox
mailbox vacant = at_rest
mailbox (asked r) = asked_of r
mailbox (full r batch) = filled_by r
mailbox (empty r) = refused_by r

abbrev pub pictured : Place → RankPicture
pictured x = record { busy = x.busy; colour = x.colour; tried = x.tried; ended = x.ended; mailbox = mailbox x.mail }

-- the told picture
abbrev pub picture : Told → Picture
picture t r = pictured (place t r)

-- the other facts of a told picture between two calls
pub record Sane (t : Told) : Type 0 where
  -- a rank alone has no string once its token is white
  pub alone : length t.places ≡ 1 → t.token ≡ At 0 White → (place t 0).busy ≡ false
  pub tried : (r : ℕ) → (place t r).tried ≡ true → (place t r).busy ≡ false
  pub waits : (r : ℕ) → (place t r).mail ≢ vacant → (place t r).busy ≡ false
  pub over : (r : ℕ) → (place t r).ended ≡ true → t.token ≡ Over
  pub within : (p : ℕ) (c : Colour) → t.token ≡ At p c → p < length t.places

-- the token invariant, and the facts that go with it
pub record Sound (t : Told) : Type 0 where
  pub token : PictureInvariant (length t.places) (picture t) t.token
  pub sane : Sane t
