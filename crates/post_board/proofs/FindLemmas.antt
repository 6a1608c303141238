-- What a look at the stops, and one at the own mailbox after it, leave of a seat with an open request.
use Rattle.post_board.proofs.Prelude.{◌≡◌, ℕ, ◌+◌, ◌*◌, refl, sym, subst, ap, ◌∙◌, Bool, false, cond, List, [], ◌∷◌, ◌++◌, append_assoc, Some, Adds, Four}
use Rattle.post_board.proofs.Prelude.{Steps, victim_of, sign, has_bit, full, emptied, shown_known, own_by, Finds, SeatState, noted, knowing, after_look, learn}
use Rattle.post_board.proofs.Prelude.{stop_seen, after_stops, Reading, OwnMailbox, Reply, Full, Open, Left, Filled, Emptied, Board, BoardSeat}
use Rattle.post_board.specs.BoardSeats.{IsSeat}
use Rattle.post_board.specs.declared.board_answers.Reply.TheVariants.{Refused}
use Rattle.post_board.proofs.WordLemmas.{sign_of_word}
use Rattle.post_board.proofs.CallLemmas.{learn_full, victim_here}

-- the rank that was asked goes on
pub stops_open : (o : OwnMailbox) (stops v : ℕ) → o ≡ Open v → has_bit stops v ≡ false → stop_seen o stops ≡ Open v
stops_open o stops v e bit = ap (λ (x : OwnMailbox). stop_seen x stops) e ∙ ap (λ (b : Bool). cond b (Left v) (Open v)) bit

looked : (n me stops w : ℕ) (m m1 m2 : SeatState) (o : OwnMailbox) → m1 ≡ knowing m (after_stops m.0.own (n + 2) stops)
    → m2 ≡ knowing m1 (after_look m1.0.own (me + 1) w) → learn (stop_seen m.0.own.own stops) (sign w) ≡ o
    → m2 ≡ knowing m (record (noted (noted m.0.own (n + 2) stops stops) (me + 1) w w) { own = o })
looked n me stops w m m1 m2 o first second learns = second ∙ ap (λ (x : SeatState). knowing x (after_look x.0.own (me + 1) w)) first
    ∙ ap (λ (x : OwnMailbox). knowing m (record (noted (noted m.0.own (n + 2) stops stops) (me + 1) w w) { own = x })) learns

module _ (n me stops w : ℕ) (m m1 m2 : SeatState) (first : m1 ≡ knowing m (after_stops m.0.own (n + 2) stops))
    (second : m2 ≡ knowing m1 (after_look m1.0.own (me + 1) w)) where
  -- the mailbox is as it was found
  pub finds_after : (o : OwnMailbox) → learn (stop_seen m.0.own.own stops) (sign w) ≡ o
      → m2 ≡ knowing m (record (noted (noted m.0.own (n + 2) stops stops) (me + 1) w w) { own = o })
  finds_after o learns = looked n me stops w m m1 m2 o first second learns

  -- the mailbox is filled
  pub finds_full : {v : ℕ} → w ≡ 8 * v + 3 → Finds n me v m Full m2
  finds_full {v} is = record {
    stops = stops;
    word = w;
    replied = ap sign is ∙ sign_of_word (full v);
    after = finds_after (Filled v) (learn_full (stop_seen m.0.own.own stops) w v is);
  }

  -- the request was refused
  pub finds_refused : {v : ℕ} → sign w ≡ emptied v → Finds n me v m Refused m2
  finds_refused {v} is = record {
    stops = stops;
    word = w;
    replied = is;
    after = finds_after (Emptied v) (ap (learn (stop_seen m.0.own.own stops)) is);
  }

-- the reply that a case names
pub finds_as : {n me v : ℕ} {m m' : SeatState} {x y : Reply} → x ≡ y → Finds n me v m x m' → Finds n me v m y m'
finds_as {n} {me} {v} {m} {m'} {x} {y} is found = subst (λ (z : Reply). Finds n me v m z m') is found

-- the words that a seat with an open request to v looks at
pub record OpenAt (b : Board) (s : BoardSeat) (v : ℕ) : Type 0 where
  pub whom : v ≡ victim_of (shown_known s.seat.me.0.own)
  pub place : s.number + 1 ≡ s.seat.me.0.own.number + 1
  pub stops : b.n + 2 ≡ s.seat.me.0.own.n + 2

pub open_at : (b : Board) (s : BoardSeat) (v : ℕ) → IsSeat b s → s.asked ≡ Some v → OpenAt b s v
open_at b s v S asked = record {
  whom = sym (victim_here s.seat.me.0.own v (S.own ∙ ap own_by asked));
  place = ap (λ (k : ℕ). k + 1) (sym S.number);
  stops = ap (λ (k : ℕ). k + 2) (sym S.sized);
}

pub four_more : (rs rs' : List Reading) (P Q R S : Reading → Type 0) (x y z u : Reading) → P x → Q y → R z → S u
    → rs' ≡ (((rs ++ x ∷ []) ++ y ∷ []) ++ z ∷ []) ++ u ∷ [] → Adds (Some rs) (Four P Q R S) (Some rs')
four_more rs rs' P Q R S x y z u p q r s e = (
  x ∷ y ∷ z ∷ u ∷ [],
  (x, y, z, u, p, q, r, s, refl),
  ap Some (e ∙ append_assoc ((rs ++ x ∷ []) ++ y ∷ []) (z ∷ []) (u ∷ []) ∙ append_assoc (rs ++ x ∷ []) (y ∷ []) (z ∷ u ∷ [])
      ∙ append_assoc rs (x ∷ []) (y ∷ z ∷ u ∷ [])),
)

-- steps of one kind are steps of another
pub adds_as : (rs rs' : List Reading) (P Q : Steps) → ((steps : List Reading) → P steps → Q steps) → Adds (Some rs) P (Some rs') → Adds (Some rs) Q (Some rs')
adds_as rs rs' P Q f (steps, p, e) = (steps, f steps p, e)
