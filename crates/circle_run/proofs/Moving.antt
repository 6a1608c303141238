-- An idle rank moves the token on, by one call of its board: it passes the token, sends it round again, or concludes.
use Rattle.circle_run.proofs.Prelude.{◌≡◌, [], ◌∷◌, Option, darker, Colour, Shown, Told, Deed, event_of, Tells, Log, to_move, moved_on, Draws, Writes, Follows}
use Rattle.circle_run.proofs.Prelude.{Came, Rank, Acted}
use Rattle.circle_run.proofs.Called.{Keeps, Calls, IsIdle, came_idle}
use Rattle.circle_run.proofs.Hearing.{follows_moved}

module _ {J S T P Q : Type 0} (log : J → Log) (plain : J → Q) (shows : S → Shown) (tells : P → Option Told) (seats : P → S → Type 0) where
  pub came_moved : (held colour : Colour) (d : Deed) (r : Rank J S T) (p : P) (r1 : Rank J S T) (p1 : P) → Keeps shows r r1
      → Calls shows tells seats r.seat p r1.seat p1 → (shows r1.seat).batches ≡ (shows r.seat).batches
      → Tells (shows r.seat).number d (tells p) (tells p1) → colour ≡ darker r.colour held → moved_on r.me colour ≡ d
      → Writes r.options.trace (event_of r.me d ∷ []) r.book r1.book → r.queue ≡ [] → r1.queue ≡ [] → IsIdle d
      → Draws r.options.ranks r.me d r.draws r1.draws → Came log plain shows tells seats (Follows Acted r.me (to_move held)) r p r1 p1
  came_moved held colour d r p r1 p1 keeps calls batches told mixed moved writes empty left idle drawn =
      came_idle log plain shows tells seats (Follows Acted r.me (to_move held)) r p r1 p1 d keeps calls
      (follows_moved r.me r.colour held colour d mixed moved) writes
      (record { idle = idle; empty = empty; left = left; drawn = drawn; batches = batches; told = told })
