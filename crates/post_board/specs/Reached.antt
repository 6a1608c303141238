-- The pictures that legal deeds lead to from the start of a board. Our own, after the runs of events of the crate ring_core.
use Rattle.std.specs.Prelude.{ℕ}
use Rattle.post_board.specs.Told.{Told}
use Rattle.post_board.specs.Deeds.{Deed, Legal, told_after}
use Rattle.post_board.specs.Fresh.{fresh_told}

-- n ranks that began busy and white have come here by deeds, each legal where it was done
pub data Reached (n : ℕ) : Told → Type 0 where
  begun : Reached n (fresh_told n)
  did : (t : Told) (me : ℕ) (deed : Deed) → Reached n t → Legal me deed t → Reached n (told_after me deed t)
