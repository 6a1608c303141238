-- A run of moves is balanced, and what was given in it was taken or lies in a mailbox.
use Rattle.circle_run.proofs.Prelude.{◌≡◌, ℕ, zero, suc, ◌+◌, ◌%◌, ◌<◌, ◌≤◌, ◌==◌, ⊎_elim, refl, sym, subst, ap, ◌∙◌, arith, Bool, true, false, cond, List, []}
use Rattle.circle_run.proofs.Prelude.{◌∷◌, ◌++◌, length, length-set, set, get_or, mul-zero, append-nil, sum_by, flat_map, range_with_len, mod-lt, cases_lt}
use Rattle.circle_run.proofs.Prelude.{get_or_past, fold-map, sum_by-replicate, sum_by-append, sum_by-cons, Strings, Mail, vacant, asked, full, empty, Place}
use Rattle.circle_run.proofs.Prelude.{place, no_place, is_full, NoneOnTheWay, Balanced, Move, served, RankSide, Stage, no_side, rank_side, Plays, dealt_from}
use Rattle.circle_run.proofs.Prelude.{new_place, new_told, begun, batch_in, all_queued, all_mailed, all_logged, MovesAreBalanced, AllIsHandled, handled_in}
use Rattle.circle_run.proofs.Prelude.{given_in, taken_in, moves_of, of_all, GivenIsTakenOrMailed, Options, if_zero}
use Rattle.circle_run.specs.Balance as balance
use Rattle.circle_run.proofs.Begun.{new_side, ranks_begun, places_begun}
use Rattle.circle_run.proofs.Sums.{sum_by-set, sum_by-flat_map, sum_by-same, sum_by-both, sum_by-ones, sum_by-at_one}
use Rattle.circle_run.proofs.Flows.{mailed, Moved, moved}

abbrev Weight : Type 0
Weight = List ℕ → ℕ

-- what the queues weigh, and the strings handled and pushed
abbrev queued : Weight → List RankSide → ℕ
queued w ranks = sum_by (λ x. sum_by w x.queue) ranks

abbrev done : Weight → List RankSide → ℕ
done w ranks = sum_by (λ x. balance.handled w x.log) ranks

abbrev come : Weight → List RankSide → ℕ
come w ranks = sum_by (λ x. balance.pushed w x.log) ranks

-- what the strings of a kind in all ranks' moves weigh
abbrev shared : ℕ → (Move → Strings) → Weight → List (ℕ × Move) → ℕ
shared n kind w moves = sum_by (λ r. sum_by w (flat_map kind (moves_of r moves))) (range_with_len 0 n)

one_move : (b : Bool) (kind : Move → Strings) (w : Weight) (m : Move) (moves : List Move)
    → sum_by w (flat_map kind (cond b (m ∷ []) [] ++ moves)) ≡ cond b (sum_by w (kind m)) 0 + sum_by w (flat_map kind moves)
one_move true kind w m moves = sum_by-append w (kind m) (flat_map kind moves)
one_move false kind w m moves = omega arith

nothing : {X : Type 0} (f : X → ℕ) → ((x : X) → f x ≡ 0) → (xs : List X) → sum_by f xs ≡ 0
nothing f none [] = refl
nothing f none (x ∷ xs) = omega (arith, sum_by-cons f x xs, none x, nothing f none xs)

at_its_rank : (n m k : ℕ) → (n ≤ m → k ≡ 0) → sum_by (λ r. cond (m == r) k 0) (range_with_len 0 n) ≡ k
at_its_rank n m k past = ⊎_elim (λ inside. sum_by-at_one m k 0 n (omega arith) (omega arith))
    (λ h. (let e : k ≡ 0 = past h in nothing (λ r. cond (m == r) k 0) (λ r. if_zero (m == r) k e) (range_with_len 0 n) ∙ sym e)) (cases_lt m n)

shared_more : (n : ℕ) (kind : Move → Strings) (w : Weight) (m : ℕ × Move) (moves : List (ℕ × Move)) → (n ≤ m.0 → sum_by w (kind m.1) ≡ 0)
    → shared n kind w (m ∷ moves) ≡ sum_by w (kind m.1) + shared n kind w moves
shared_more n kind w m moves past =
    sum_by-same (λ r. sum_by w (flat_map kind (moves_of r (m ∷ moves))))
    (λ r. cond (m.0 == r) (sum_by w (kind m.1)) 0 + sum_by w (flat_map kind (moves_of r moves)))
    (λ r. one_move (m.0 == r) kind w m.1 (moves_of r moves)) (range_with_len 0 n)
    ∙ sum_by-both (λ r. cond (m.0 == r) (sum_by w (kind m.1)) 0) (λ r. sum_by w (flat_map kind (moves_of r moves))) (range_with_len 0 n)
    ∙ ap (λ k. k + shared n kind w moves) (at_its_rank n m.0 (sum_by w (kind m.1)) past)

-- the totals after a run of moves, against those before it
pub record Totals (n : ℕ) (moves : List (ℕ × Move)) (from to : Stage) : Type 0 where
  pub weighs : (w : List ℕ → ℕ)
      → ((queued w to.ranks + mailed w to.told) + done w to.ranks) + come w from.ranks
      ≡ ((queued w from.ranks + mailed w from.told) + done w from.ranks) + come w to.ranks
  pub shares : (w : List ℕ → ℕ) → mailed w to.told + shared n taken_in w moves ≡ mailed w from.told + shared n given_in w moves

-- one rank's side is replaced
changed : (ranks : List RankSide) (me : ℕ) (y : RankSide) (f : RankSide → ℕ) → (length ranks ≤ me → f y ≡ f (get_or ranks me no_side))
    → sum_by f (set ranks me y) + f (get_or ranks me no_side) ≡ sum_by f ranks + f y
changed ranks me y f past = sum_by-set f ranks me y no_side (λ h. past h ∙ ap f (get_or_past ranks me no_side h))

pub totals : (o : Options) (n : ℕ) (moves : List (ℕ × Move)) (from to : Stage) → length from.ranks ≡ n → length from.told.places ≡ n
    → Plays o moves from to → Totals n moves from to
totals o n [] from to ranks places same = record {
  weighs = λ w. omega (
    arith,
    ap (λ (s : Stage). queued w s.ranks) same,
    ap (λ (s : Stage). mailed w s.told) same,
    ap (λ (s : Stage). done w s.ranks) same,
    ap (λ (s : Stage). come w s.ranks) same,
  );
  shares = λ w. (let e : mailed w to.told ≡ mailed w from.told = ap (λ (s : Stage). mailed w s.told) same in
      let a : shared n taken_in w [] ≡ 0 = nothing (λ (r : ℕ). 0) (λ r. refl) (range_with_len 0 n) in
      let b : shared n given_in w [] ≡ 0 = nothing (λ (r : ℕ). 0) (λ r. refl) (range_with_len 0 n) in
      omega arith);
}
totals o n (m ∷ moves) from to ranks places (y, u, does, plays) =
    let x : RankSide = rank_side from m.0 in
    let mid : Stage = record { ranks = set from.ranks m.0 y; told = u } in
    let step : Moved m.0 m.1 x y from.told u = moved o m.0 m.1 x y from.told u does in
    let rest : Totals n moves mid to = totals o n moves mid to (length-set from.ranks m.0 y ∙ ranks) (step.places ∙ places) plays in
    let idle : n ≤ m.0 → m.1 ≡ served [] = λ h. step.outside (subst (λ (k : ℕ). k ≤ m.0) (sym places) h) in
    record {
      weighs = λ w. (
          let q : queued w mid.ranks + sum_by w x.queue ≡ queued w from.ranks + sum_by w y.queue =
          changed from.ranks m.0 y (λ s. sum_by w s.queue) (λ past. (let e = idle (omega arith) in
          let g : sum_by w (given_in m.1) ≡ 0 = ap (λ (k : Move). sum_by w (given_in k)) e in
          let t : sum_by w (taken_in m.1) ≡ 0 = ap (λ (k : Move). sum_by w (taken_in k)) e in
          let d : balance.handled w (handled_in m.1) ≡ 0 = ap (λ (k : Move). balance.handled w (handled_in k)) e in
          let p : balance.pushed w (handled_in m.1) ≡ 0 = ap (λ (k : Move). balance.pushed w (handled_in k)) e in
          omega (arith, step.queue w))) in
          let log : y.log ≡ x.log ++ handled_in m.1 = step.log in
          let same_log : length from.ranks ≤ m.0
          → y.log ≡ x.log = λ past. (let e = idle (omega arith) in
          log ∙ ap (λ (k : Move). x.log ++ handled_in k) e ∙ append-nil x.log) in
          let d : done w mid.ranks + balance.handled w x.log ≡ done w from.ranks + balance.handled w y.log =
          changed from.ranks m.0 y (λ s. balance.handled w s.log) (λ past. ap (balance.handled w) (same_log past)) in
          let p : come w mid.ranks + balance.pushed w x.log ≡ come w from.ranks + balance.pushed w y.log =
          changed from.ranks m.0 y (λ s. balance.pushed w s.log) (λ past. ap (balance.pushed w) (same_log past)) in
          let d' : balance.handled w y.log ≡ balance.handled w x.log + balance.handled w (handled_in m.1) = ap (balance.handled w) log
          ∙ sum_by-append (λ (z : List ℕ × Strings). w z.0) x.log (handled_in m.1) in
          let p' : balance.pushed w y.log ≡ balance.pushed w x.log + balance.pushed w (handled_in m.1) = ap (balance.pushed w) log
          ∙ sum_by-append (λ (z : List ℕ × Strings). sum_by w z.1) x.log (handled_in m.1) in
          omega (arith, q, d, p, d', p', step.queue w, step.mail w, rest.weighs w)
          );
      shares = λ w. omega (
        arith,
        rest.shares w,
        step.mail w,
        shared_more n taken_in w m moves (λ past. ap (λ (k : Move). sum_by w (taken_in k)) (idle past)),
        shared_more n given_in w m moves (λ past. ap (λ (k : Move). sum_by w (given_in k)) (idle past)),
      );
    }

of_new : (o : Options) (starts : Strings) (f : RankSide → ℕ)
    → sum_by f (begun o starts).ranks ≡ sum_by (λ r. f (new_side o starts r)) (range_with_len 0 o.ranks)
of_new o starts f = fold-map (λ (a : ℕ) (x : RankSide). a + f x) (new_side o starts) 0 (range_with_len 0 o.ranks)

one_dealt : (b : Bool) (w : Weight) (s : List ℕ) (rest : Strings) → sum_by w (cond b (s ∷ []) [] ++ rest) ≡ cond b (w s) 0 + sum_by w rest
one_dealt true w s rest = sum_by-cons w s rest
one_dealt false w s rest = omega arith

-- each start is dealt to one rank
all_dealt : (w : Weight) (n k : ℕ) (starts : Strings) → 0 < n → sum_by (λ r. sum_by w (dealt_from n r k starts)) (range_with_len 0 n) ≡ sum_by w starts
all_dealt w n k [] some = nothing (λ (r : ℕ). 0) (λ r. refl) (range_with_len 0 n)
all_dealt w n k (s ∷ starts) some =
    let inside : k % n < n = mod-lt k {m = n} some in
    sum_by-same (λ r. sum_by w (dealt_from n r k (s ∷ starts))) (λ r. cond (k % n == r) (w s) 0 + sum_by w (dealt_from n r (suc k) starts))
    (λ r. one_dealt (k % n == r) w s (dealt_from n r (suc k) starts)) (range_with_len 0 n)
    ∙ sum_by-both (λ r. cond (k % n == r) (w s) 0) (λ r. sum_by w (dealt_from n r (suc k) starts)) (range_with_len 0 n)
    ∙ ap (λ j. j + sum_by (λ r. sum_by w (dealt_from n r (suc k) starts)) (range_with_len 0 n)) (sum_by-at_one (k % n) (w s) 0 n (omega arith) (omega arith))
    ∙ ap (λ j. w s + j) (all_dealt w n (suc k) starts some)
    ∙ sym (sum_by-cons w s starts)

from_begun : (o : Options) (starts : Strings) (moves : List (ℕ × Move)) (stage : Stage) → Plays o moves (begun o starts) stage
    → Totals o.ranks moves (begun o starts) stage
from_begun o starts moves stage plays =
    totals o o.ranks moves (begun o starts) stage (ranks_begun o starts) (places_begun o starts) plays

no_mail : (w : Weight) (n : ℕ) → mailed w (new_told n) ≡ 0
no_mail w n = sum_by-replicate (λ (x : Place). sum_by w (batch_in x.mail)) n new_place ∙ mul-zero n

pub moves_are_balanced : MovesAreBalanced
moves_are_balanced o starts moves stage some plays = record {
  weighs = λ w. omega (
    arith,
    (from_begun o starts moves stage plays).weighs w,
    no_mail w o.ranks,
    of_new o starts (λ x. sum_by w x.queue) ∙ all_dealt w o.ranks 0 starts some,
    of_new o starts (λ x. balance.handled w x.log) ∙ nothing (λ (r : ℕ). 0) (λ r. refl) (range_with_len 0 o.ranks),
    of_new o starts (λ x. balance.pushed w x.log) ∙ nothing (λ (r : ℕ). 0) (λ r. refl) (range_with_len 0 o.ranks),
    sum_by-append w (all_queued stage) (all_mailed stage),
    sum_by-flat_map w (λ (x : RankSide). x.queue) stage.ranks,
    sum_by-flat_map w (λ (x : Place). batch_in x.mail) stage.told.places,
    sum_by-flat_map (λ (z : List ℕ × Strings). w z.0) (λ (x : RankSide). x.log) stage.ranks,
    sum_by-flat_map (λ (z : List ℕ × Strings). sum_by w z.1) (λ (x : RankSide). x.log) stage.ranks,
  );
}

all_empty : {X A : Type 0} (f : X → List A) (d : X) (xs : List X) → ((r : ℕ) → f (get_or xs r d) ≡ []) → flat_map f xs ≡ []
all_empty f d [] none = refl
all_empty f d (x ∷ xs) none = ap (λ ys. ys ++ flat_map f xs) (none zero) ∙ all_empty f d xs (λ r. none (suc r))

not_full : (m : Mail) → is_full m ≡ false → batch_in m ≡ []
not_full vacant e = refl
not_full (asked r) e = refl
not_full (full r b) e = cc
not_full (empty r) e = refl

pub nothing_mailed : (stage : Stage) → NoneOnTheWay stage.told → all_mailed stage ≡ []
nothing_mailed stage none =
    all_empty (λ (x : Place). batch_in x.mail) no_place stage.told.places
    (λ r. not_full (place stage.told r).mail (none r))

pub all_is_handled : AllIsHandled
all_is_handled o starts moves stage some plays nothing_waits =
    let queues : all_queued stage ≡ [] = all_empty (λ (x : RankSide). x.queue) no_side stage.ranks nothing_waits.queues in
    let mails : all_mailed stage ≡ [] = nothing_mailed stage nothing_waits.mailboxes in
    subst (λ (left : Strings). Balanced (all_logged stage) left starts)
    (ap (λ (left : Strings). left ++ all_mailed stage) queues ∙ mails)
    (moves_are_balanced o starts moves stage some plays)

given_weighs : (o : Options) (starts : Strings) (moves : List (ℕ × Move)) (stage : Stage) → Plays o moves (begun o starts) stage → (w : Weight)
    → sum_by w (of_all o.ranks given_in moves) ≡ sum_by w (of_all o.ranks taken_in moves) + sum_by w (all_mailed stage)
given_weighs o starts moves stage plays w = omega (
  arith,
  (from_begun o starts moves stage plays).shares w,
  no_mail w o.ranks,
  sum_by-flat_map w (λ (r : ℕ). flat_map given_in (moves_of r moves)) (range_with_len 0 o.ranks),
  sum_by-flat_map w (λ (r : ℕ). flat_map taken_in (moves_of r moves)) (range_with_len 0 o.ranks),
  sum_by-flat_map w (λ (x : Place). batch_in x.mail) stage.told.places,
)

-- a list of strings by the number of each rank's
counted : (n : ℕ) (kind : Move → Strings) (moves : List (ℕ × Move))
    → sum_by (λ x. 1) (of_all n kind moves) ≡ sum_by (λ r. length (flat_map kind (moves_of r moves))) (range_with_len 0 n)
counted n kind moves =
    sum_by-flat_map (λ (x : List ℕ). 1) (λ (r : ℕ). flat_map kind (moves_of r moves)) (range_with_len 0 n)
    ∙ sum_by-same (λ (r : ℕ). sum_by (λ (x : List ℕ). 1) (flat_map kind (moves_of r moves))) (λ (r : ℕ). length (flat_map kind (moves_of r moves)))
    (λ r. sum_by-ones (flat_map kind (moves_of r moves))) (range_with_len 0 n)

pub given_is_taken_or_mailed : GivenIsTakenOrMailed
given_is_taken_or_mailed o starts moves stage plays = record {
  weighs = given_weighs o starts moves stage plays;
  counts = omega (
    arith,
    given_weighs o starts moves stage plays (λ (x : List ℕ). 1),
    counted o.ranks given_in moves,
    counted o.ranks taken_in moves,
    sum_by-ones (all_mailed stage),
  );
}
