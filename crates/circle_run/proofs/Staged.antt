-- The moves of one rank are played in a stage, and turns are played behind turns.
use Rattle.circle_run.proofs.Prelude.{◌≡◌, ℕ, suc, ◌+◌, ◌%◌, ◌==◌, ◌<◌, ◌≢◌, refl, sym, subst, ap, ◌∙◌, arith, Bool, cond, List, [], ◌∷◌, ◌++◌, map, length}
use Rattle.circle_run.proofs.Prelude.{length-set, append_assoc, append-nil, set, get_or-set_same, eq-eqb, ne_eqb, None, set-set, set-get_or, flat_map-append}
use Rattle.circle_run.proofs.Prelude.{flat_map, Event, Told, withdraw, halt, stop, Move, handled, served, did, noted, Side, answer_of, events_of, Does}
use Rattle.circle_run.proofs.Prelude.{RankSide, Stage, no_side, rank_side, side, Plays, events_of_all, moves_of, HandlesLast, MayIdle, moves_in, PlaysTurns}
use Rattle.circle_run.proofs.Prelude.{moves_of_turns, DoesAll, events_by, Options}
use Rattle.circle_run.proofs.Sides.{IsTold, move_leaves_told, no_batches, no_batches_of_all}

-- a side without the batches that its seat keeps
abbrev pub bare : Side → Side
bare s = record s { batches = None }

does_bare : (o : Options) (me : ℕ) (m : Move) (s s' : Side) → Does o me m s s' → Does o me m (bare s) (bare s')
does_bare o me (handled path kids) s s' does =
    record {
      rest = does.rest;
      live = does.live;
      may = does.may;
      newest = does.newest;
      unasked = does.unasked;
      few = does.few;
      after = ap bare does.after;
    }
does_bare o me (served answers) s s' does = record {
  ranks = does.ranks;
  names = does.names;
  shares = does.shares;
  oldest = does.oldest;
  log = does.log;
  batches = sym (no_batches_of_all (map answer_of answers));
  told = does.told;
}
does_bare o me (did d) s s' does =
    record {
      queue = does.queue;
      few = does.few;
      names = does.names;
      drawn = does.drawn;
      log = does.log;
      batches = sym (no_batches d);
      told = does.told;
    }
does_bare o me (noted (withdraw from)) s s' does = record { may = does.may; told = does.told; after = ap bare does.after }
does_bare o me (noted halt) s s' does = record { may = does.may; told = does.told; after = ap bare does.after }
does_bare o me (noted stop) s s' does = record { may = does.may; told = does.told; after = ap bare does.after }

pub all_bare : (o : Options) (me : ℕ) (moves : List Move) (s s' : Side) → DoesAll o me moves s s' → DoesAll o me moves (bare s) (bare s')
all_bare o me [] s s' same = ap bare same
all_bare o me (m ∷ moves) s s' (mid, does, rest) = (bare mid, does_bare o me m s mid does, all_bare o me moves mid s' rest)

abbrev pub stage : List RankSide → Told → Stage
stage ranks t = record { ranks = ranks; told = t }

-- the moves of a turn are played in the stage, and leave this side of the rank
pub record Staged (o : Options) (me : ℕ) (turn : List Move) (from : Stage) (s : Side) : Type 0 where
  pub rank : RankSide
  pub told : Told
  pub is : s ≡ side rank told
  pub plays : Plays o (moves_in me turn) from (record { ranks = set from.ranks me rank; told = told })

pub staged : (o : Options) (me : ℕ) (turn : List Move) (from : Stage) (s : Side) → me < length from.ranks
    → DoesAll o me turn (side (rank_side from me) from.told) s → Staged o me turn from s
staged o me [] from s inside same =
    record {
      rank = rank_side from me;
      told = from.told;
      is = same;
      plays = ap (λ (xs : List RankSide). stage xs from.told) (set-get_or from.ranks me no_side);
    }
staged o me (m ∷ turn) from s inside (mid, does, rest) =
    let x : IsTold mid = move_leaves_told o me m (rank_side from me) from.told mid does in
    let next : Stage = stage (set from.ranks me x.rank) x.told in
    let at : rank_side next me ≡ x.rank = get_or-set_same from.ranks me x.rank no_side inside in
    let on : DoesAll o me turn (side (rank_side next me) next.told) s =
    subst (λ (y : Side). DoesAll o me turn y s) (x.is ∙ ap (λ (z : RankSide). side z x.told) (sym at)) rest in
    let later : Staged o me turn next s = staged o me turn next s (subst (λ (k : ℕ). me < k) (sym (length-set from.ranks me x.rank)) inside) on in
    record {
      rank = later.rank;
      told = later.told;
      is = later.is;
      plays = (
        x.rank,
        x.told,
        subst (Does o me m (side (rank_side from me) from.told)) x.is does,
        subst (Plays o (moves_in me turn) next) (ap (λ (xs : List RankSide). stage xs later.told) (set-set from.ranks me x.rank later.rank)) later.plays,
      );
    }

-- one turn more, which is that of the rank w
pub turns_more : (o : Options) (k : ℕ) (turns : List (List Move)) (turn : List Move) (w : ℕ) (a b c : Stage)
    → (k + length turns) % o.ranks ≡ w → PlaysTurns o k turns a b → HandlesLast turn
    → Plays o (moves_in w turn) b c → (events_of_all (moves_in w turn) ≡ [] → MayIdle w b.told c.told) → PlaysTurns o k (turns ++ turn ∷ []) a c
turns_more o k [] turn w a b c own same last plays idle =
    let first : k % o.ranks ≡ w = ap (λ (q : ℕ). q % o.ranks) (let z : k ≡ k + 0 = omega arith in z) ∙ own in
    subst (λ (s : Stage). PlaysTurns o k (turn ∷ []) s c) same
    (subst (λ (q : ℕ). (mid : Stage) × HandlesLast turn × Plays o (moves_in q turn) b mid
    × (events_of_all (moves_in q turn) ≡ [] → MayIdle q b.told mid.told) × (c ≡ mid)) (sym first) (c, last, plays, idle, refl))
turns_more o k (t ∷ turns) turn w a b c own (mid, last', plays', idle', rest) last plays idle =
    let next : (suc k + length turns) % o.ranks ≡ w =
    ap (λ (q : ℕ). q % o.ranks) (let z : suc k + length turns ≡ k + suc (length turns) = omega arith in z) ∙ own in
    (mid, last', plays', idle', turns_more o (suc k) turns turn w mid b c next rest last plays idle)

pub moves_more : (n k : ℕ) (turns : List (List Move)) (turn : List Move) (w : ℕ) → (k + length turns) % n ≡ w
    → moves_of_turns n k (turns ++ turn ∷ []) ≡ moves_of_turns n k turns ++ moves_in w turn
moves_more n k [] turn w own =
    let first : k % n ≡ w = ap (λ (q : ℕ). q % n) (let z : k ≡ k + 0 = omega arith in z) ∙ own in
    append-nil (moves_in (k % n) turn) ∙ ap (λ (q : ℕ). moves_in q turn) first
moves_more n k (t ∷ turns) turn w own =
    let next : (suc k + length turns) % n ≡ w = ap (λ (q : ℕ). q % n) (let z : suc k + length turns ≡ k + suc (length turns) = omega arith in z) ∙ own in
    ap (λ (ms : List (ℕ × Move)). moves_in (k % n) t ++ ms) (moves_more n (suc k) turns turn w next)
    ∙ sym (append_assoc (moves_in (k % n) t) (moves_of_turns n (suc k) turns) (moves_in w turn))

pub moves_of-append : (r : ℕ) (xs ys : List (ℕ × Move)) → moves_of r (xs ++ ys) ≡ moves_of r xs ++ moves_of r ys
moves_of-append r [] ys = refl
moves_of-append r (m ∷ xs) ys = ap (λ (ms : List Move). cond (m.0 == r) (m.1 ∷ []) [] ++ ms) (moves_of-append r xs ys)
    ∙ sym (append_assoc (cond (m.0 == r) (m.1 ∷ []) []) (moves_of r xs) (moves_of r ys))

-- the moves of a turn are those of its rank
moves_of_own : (r : ℕ) (turn : List Move) → moves_of r (moves_in r turn) ≡ turn
moves_of_own r [] = refl
moves_of_own r (m ∷ turn) = ap (λ (b : Bool). cond b (m ∷ []) [] ++ moves_of r (moves_in r turn)) (eq-eqb r r refl)
    ∙ ap (λ (ms : List Move). m ∷ ms) (moves_of_own r turn)

moves_of_other : (w r : ℕ) (turn : List Move) → w ≢ r → moves_of r (moves_in w turn) ≡ []
moves_of_other w r [] ne = refl
moves_of_other w r (m ∷ turn) ne = ap (λ (b : Bool). cond b (m ∷ []) [] ++ moves_of r (moves_in w turn)) (ne_eqb w r ne) ∙ moves_of_other w r turn ne

pub events_by_own : (r : ℕ) (moves : List (ℕ × Move)) (turn : List Move)
    → events_by r (moves ++ moves_in r turn) ≡ events_by r moves ++ flat_map (events_of r) turn
events_by_own r moves turn =
    ap (flat_map (events_of r)) (moves_of-append r moves (moves_in r turn) ∙ ap (λ (ms : List Move). moves_of r moves ++ ms) (moves_of_own r turn))
    ∙ flat_map-append (events_of r) (moves_of r moves) turn

pub events_by_other : (w r : ℕ) (moves : List (ℕ × Move)) (turn : List Move) → w ≢ r → events_by r (moves ++ moves_in w turn) ≡ events_by r moves
events_by_other w r moves turn ne =
    ap (flat_map (events_of r))
    (moves_of-append r moves (moves_in w turn) ∙ ap (λ (ms : List Move). moves_of r moves ++ ms) (moves_of_other w r turn ne)
    ∙ append-nil (moves_of r moves))

pub events_of_turn : (w : ℕ) (turn : List Move) → events_of_all (moves_in w turn) ≡ flat_map (events_of w) turn
events_of_turn w [] = refl
events_of_turn w (m ∷ turn) = ap (λ (es : List Event). events_of w m ++ es) (events_of_turn w turn)

pub events_of_all-append : (xs ys : List (ℕ × Move)) → events_of_all (xs ++ ys) ≡ events_of_all xs ++ events_of_all ys
events_of_all-append xs ys = flat_map-append (λ (m : ℕ × Move). events_of m.0 m.1) xs ys
