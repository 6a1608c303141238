-- What is played is a legal run of the ranks' world, to the world of the stage.
use Rattle.circle_run.proofs.Prelude.{◌≡◌, ℕ, suc, ◌+◌, ◌<◌, ◌^◌, ◌==◌, ◌%◌, refl, sym, subst, ap, ◌∙◌, arith, Bool, true, false, cond, List, [], ◌∷◌, ◌++◌}
use Rattle.circle_run.proofs.Prelude.{map, length, length-append, append_assoc, length-set, set, get_or, get_or-set_same, get_or-set_other, Option, Some, None}
use Rattle.circle_run.proofs.Prelude.{eq-eqb, ne_eqb, count_by, ⊎_elim, get_or-replicate, length-replicate, nil_from_length, length-map-range_with_len}
use Rattle.circle_run.proofs.Prelude.{get_or-map-range_with_len, fill_by_all, sum_by-cons, flat_map, range_with_len, dite, ℕ_discrete, Token, RankState, Event}
use Rattle.circle_run.proofs.Prelude.{Handle, Seen, fresh, rank_of, dealt, started, refusal, ranks_after, token_after, after, put, IsRun, after_all, Strings}
use Rattle.circle_run.proofs.Prelude.{Place, Told, no_place, place, Deed, ask, give, refuse, take, take_none, pass, restart, conclude, see_over, Legal}
use Rattle.circle_run.proofs.Prelude.{told_after, event_of, Tells, Move, handled, served, did, noted, Side, answer_of, events_of, Queues, TellsAll, Handles}
use Rattle.circle_run.proofs.Prelude.{Does, RankSide, Stage, no_side, rank_side, side, Plays, events_of_all, dealt_from, new_place, begun, state_of, world_of}
use Rattle.circle_run.proofs.Prelude.{MovesAreLegalRun, Options, put_here, put_elsewhere, put_same, length-ranks_after}
use Rattle.circle_run.specs.Stops.{Halts}
use Rattle.circle_run.proofs.Stopping.{Quiet, quiet, never_late, halt_step, begun_halts}
use Rattle.circle_run.proofs.Deeds.{Shape, LeavesQueue, requeue, deed_legal, deed_leaves, handle_legal}
use Rattle.circle_run.proofs.Deeds.{handle_leaves, token_same, some_is}
use Rattle.circle_run.proofs.Begun.{ranks_begun, side_begun}
use Rattle.circle_run.proofs.Shared.{one_stays}

IsRun-append : (xs ys : List Event) (w : Seen) → IsRun w xs → IsRun (after_all w xs) ys → IsRun w (xs ++ ys)
IsRun-append [] ys w run more = more
IsRun-append (x ∷ xs) ys w (legal, run) more = (legal, IsRun-append xs ys (after w x) run more)

after_all-append : (xs ys : List Event) (w : Seen) → after_all w (xs ++ ys) ≡ after_all (after_all w xs) ys
after_all-append [] ys w = refl
after_all-append (x ∷ xs) ys w = after_all-append xs ys (after w x)

-- the world is that of what is told and of the queues
pub record Shows (w : Seen) (t : Told) (q : ℕ → Strings) : Type 0 where
  pub shape : Shape t q w.0
  pub token : w.1 ≡ t.token

-- the events are a run, to the world of what is told then
pub record Reaches (w : Seen) (events : List Event) (t : Told) (q : ℕ → Strings) : Type 0 where
  pub run : IsRun w events
  pub shows : Shows (after_all w events) t q
  pub sized : length (after_all w events).0 ≡ length w.0

reaches_nothing : (w : Seen) (t : Told) (q : ℕ → Strings) → Shows w t q → Reaches w [] t q
reaches_nothing w t q shows = record { run = tt; shows = shows; sized = refl }

reaches_more : (w : Seen) (xs ys : List Event) (t u : Told) (q p : ℕ → Strings) → Reaches w xs t q → Reaches (after_all w xs) ys u p → Reaches w (xs ++ ys) u p
reaches_more w xs ys t u q p first next = record {
  run = IsRun-append xs ys w first.run next.run;
  shows = subst (λ (v : Seen). Shows v u p) (sym (after_all-append xs ys w)) next.shows;
  sized = ap (λ (v : Seen). length v.0) (after_all-append xs ys w) ∙ next.sized ∙ first.sized;
}

shows_queues : (w : Seen) (t : Told) (p q : ℕ → Strings) → ((k : ℕ) → k < length w.0 → p k ≡ q k) → Shows w t q → Shows w t p
shows_queues w t p q same shows = record { shape = requeue t p q w.0 same shows.shape; token = shows.token }

reaches_queues : (w : Seen) (events : List Event) (t : Told) (p q : ℕ → Strings) → ((k : ℕ) → k < length w.0 → p k ≡ q k)
    → Reaches w events t q → Reaches w events t p
reaches_queues w events t p q same r = record {
  run = r.run;
  shows = shows_queues (after_all w events) t p q (λ k below. same k (subst (λ (n : ℕ). k < n) r.sized below)) r.shows;
  sized = r.sized;
}

deed_reaches : (w : Seen) (t : Told) (q : ℕ → Strings) (me : ℕ) (d : Deed) (left : Strings) → Shows w t q → Legal me d t → LeavesQueue d (q me) left
    → Reaches w (event_of me d ∷ []) (told_after me d t) (put q me left)
deed_reaches w t q me d left shows legal moves = record {
  run = (subst (λ (k : Token). refusal w.0 k (event_of me d) ≡ None) (sym shows.token) (deed_legal t q w.0 shows.shape me d left legal moves), tt);
  shows = record {
    shape = deed_leaves t q w.0 shows.shape me d left legal moves;
    token = ap (λ (k : Token). token_after w.0 k (event_of me d)) shows.token ∙ token_same me d t w.0 shows.shape.sized;
  };
  sized = length-ranks_after w.0 (event_of me d);
}

put_twice : (q : ℕ → Strings) (me : ℕ) (a b : Strings) (k : ℕ) → put q me b k ≡ put (put q me a) me b k
put_twice q me a b k = dite (ℕ_discrete k me)
    (λ e. subst (λ (j : ℕ). put q me b j ≡ put (put q me a) me b j) (sym e) (put_here q me b ∙ sym (put_here (put q me a) me b)))
    (λ ne. put_elsewhere q me b k ne ∙ sym (put_elsewhere (put q me a) me b k ne ∙ put_elsewhere q me a k ne))

-- an answer to one that asks takes its strings off the queue
answer_moves : (x : ℕ × Strings) (q left : Strings) → q ≡ x.1 ++ left → (0 < length x.1 → 0 < length left) → LeavesQueue (answer_of x) q left
answer_moves x q left oldest stays = dite (ℕ_discrete (length x.1) 0)
    (λ e. subst (λ (d : Deed). LeavesQueue d q left) (sym (ap (λ (b : Bool). cond b (refuse x.0) (give x.0 x.1)) (eq-eqb (length x.1) 0 e)))
    (sym (oldest ∙ ap (λ (b : Strings). b ++ left) (nil_from_length x.1 e))))
    (λ ne. subst (λ (d : Deed). LeavesQueue d q left) (sym (ap (λ (b : Bool). cond b (refuse x.0) (give x.0 x.1)) (ne_eqb (length x.1) 0 ne)))
    (let some : 0 < length x.1 = omega arith in (some, stays some, oldest)))

answers_reach : (answers : List (ℕ × Strings)) (w : Seen) (t u : Told) (q : ℕ → Strings) (me : ℕ) (rest : Strings) → Shows w t q
    → q me ≡ flat_map (λ (x : ℕ × Strings). x.1) answers ++ rest → (0 < length (flat_map (λ (x : ℕ × Strings). x.1) answers) → 0 < length rest)
    → TellsAll me (map answer_of answers) (Some t) (Some u) → Reaches w (map (λ x. event_of me (answer_of x)) answers) u (put q me rest)
answers_reach [] w t u q me rest shows oldest stays told =
    reaches_queues w [] u (put q me rest) q (λ k below. put_same (λ j xs. xs) q me rest (sym oldest) k)
    (reaches_nothing w u q (subst (λ (v : Told). Shows w v q) (sym (some_is u t told)) shows))
answers_reach (x ∷ xs) w t u q me rest shows oldest stays (mid, (legal, same), told) =
    let left : Strings = flat_map (λ (x : ℕ × Strings). x.1) xs ++ rest in
    let first : q me ≡ x.1 ++ left = oldest ∙ append_assoc x.1 (flat_map (λ (x : ℕ × Strings). x.1) xs) rest in
    let split : length (x.1 ++ flat_map (λ (x : ℕ × Strings). x.1) xs) ≡ length x.1 + length (flat_map (λ (x : ℕ × Strings). x.1) xs) =
    length-append x.1 (flat_map (λ (x : ℕ × Strings). x.1) xs) in
    let keeps : 0 < length x.1 → 0 < length left =
    λ some. (let r : 0 < length rest = stays (omega arith) in
    let e : length left ≡ length (flat_map (λ (x : ℕ × Strings). x.1) xs) + length rest =
    length-append (flat_map (λ (x : ℕ × Strings). x.1) xs) rest in omega arith) in
    let one : Reaches w (event_of me (answer_of x) ∷ []) (told_after me (answer_of x) t) (put q me left) =
    deed_reaches w t q me (answer_of x) left shows legal (answer_moves x (q me) left first keeps) in
    let more : Reaches (after_all w (event_of me (answer_of x) ∷ [])) (map (λ x. event_of me (answer_of x)) xs) u (put (put q me left) me rest) =
    answers_reach xs (after_all w (event_of me (answer_of x) ∷ [])) (told_after me (answer_of x) t) u (put q me left) me rest one.shows
    (put_here q me left) (λ some. stays (omega arith))
    (subst (λ (m : Option Told). TellsAll me (map answer_of xs) m (Some u)) same told) in
    reaches_queues w (map (λ x. event_of me (answer_of x)) (x ∷ xs)) u (put q me rest) (put (put q me left) me rest) (λ k below. put_twice q me left rest k)
    (reaches_more w (event_of me (answer_of x) ∷ []) (map (λ x. event_of me (answer_of x)) xs) (told_after me (answer_of x) t) u
    (put q me left) (put (put q me left) me rest) one more)

-- what a deed by itself does to the queue
deed_moves : (d : Deed) (q q' : Strings) → Queues d q q' → length q' < 2 ^ 64 → LeavesQueue d q q'
deed_moves (ask v) q q' queue few = queue
deed_moves (give to b) q q' queue few = absurd queue
deed_moves (refuse to) q q' queue few = absurd queue
deed_moves (take from b) q q' queue few = (queue, few)
deed_moves (take_none from) q q' queue few = queue
deed_moves (pass c) q q' queue few = queue
deed_moves restart q q' queue few = queue
deed_moves conclude q q' queue few = queue
deed_moves see_over q q' queue few = queue

handle_reaches : (o : Options) (w : Seen) (t u : Told) (q : ℕ → Strings) (x y : RankSide) (me : ℕ) (path : List ℕ) (kids : Strings) → Shows w t q
    → q me ≡ x.queue → Handles o me path kids (side x t) (side y u) → Reaches w (Handle me path (length kids) ∷ []) u (put q me y.queue)
handle_reaches o w t u q x y me path kids shows here handles =
    let inside : me < length w.0 = subst (λ (n : ℕ). me < n) (sym shows.shape.sized) handles.live.0 in
    let newest : q me ≡ handles.rest ++ path ∷ [] = here ∙ handles.newest in
    let same : u ≡ t = some_is u t (ap (λ (s : Side). s.told) handles.after) in
    let queue : y.queue ≡ handles.rest ++ kids = ap (λ (s : Side). s.queue) handles.after in
    let state : rank_of w.0 me ≡ state_of (q me) (place t me) = shows.shape.states me inside in
    let count : (rank_of w.0 me).queued ≡ length handles.rest + 1 = ap (λ (s : RankState). s.queued) state ∙ ap length newest
    ∙ length-append handles.rest (path ∷ []) in
    let both : length (handles.rest ++ kids) ≡ length handles.rest + length kids = length-append handles.rest kids in
    let few : length (handles.rest ++ kids) < 2 ^ 64 = handles.few in
    let legal : refusal w.0 w.1 (Handle me path (length kids)) ≡ None =
    handle_legal w.0 w.1 me path (length kids) inside (ap (λ (s : RankState). s.ended) state ∙ handles.live.1) (omega arith) (omega arith) in
    let leaves : Shape t (put q me (handles.rest ++ kids)) (ranks_after w.0 (Handle me path (length kids))) =
    handle_leaves t q w.0 shows.shape me path kids handles.rest handles.live.0 newest in
    record {
      run = (legal, tt);
      shows = record {
        shape = subst (λ (v : Told). Shape v (put q me y.queue) (ranks_after w.0 (Handle me path (length kids)))) (sym same)
            (subst (λ (l : Strings). Shape t (put q me l) (ranks_after w.0 (Handle me path (length kids)))) (sym queue) leaves);
        token = shows.token ∙ ap (λ (v : Told). v.token) (sym same);
      };
      sized = length-set w.0 me _;
    }

move_reaches : (o : Options) → o.stop_after ≡ None → (m : Move) (w : Seen) (t u : Told) (q : ℕ → Strings) (x y : RankSide) (me : ℕ) → Quiet t
    → Shows w t q → q me ≡ x.queue
    → Does o me m (side x t) (side y u) → Reaches w (events_of me m) u (put q me y.queue)
move_reaches o endless (handled path kids) w t u q x y me calm shows here does = handle_reaches o w t u q x y me path kids shows here does
move_reaches o endless (served answers) w t u q x y me calm shows here does =
    answers_reach answers w t u q me y.queue shows (here ∙ does.oldest)
    (one_stays o.split answers x.queue y.queue x.draws (⊎_elim (λ split. split.0) (λ none. absurd (none.0 endless)) does.shares) does.oldest) does.told
move_reaches o endless (noted late) w t u q x y me calm shows here does = absurd (never_late o me late x y t u endless calm does)
move_reaches o endless (did d) w t u q x y me calm shows here does =
    let told : Tells me d (Some t) (Some u) = does.told in
    let moves : LeavesQueue d (q me) y.queue = subst (λ (l : Strings). LeavesQueue d l y.queue) (sym here) (deed_moves d x.queue y.queue does.queue does.few) in
    subst (λ (v : Told). Reaches w (event_of me d ∷ []) v (put q me y.queue)) (sym (some_is u (told_after me d t) told.1))
    (deed_reaches w t q me d y.queue shows told.0 moves)

abbrev pub queues : List RankSide → ℕ → Strings
queues ranks r = (get_or ranks r no_side).queue

queues-set : (ranks : List RankSide) (me : ℕ) (x : RankSide) (k : ℕ) → k < length ranks → queues (set ranks me x) k ≡ put (queues ranks) me x.queue k
queues-set ranks me x k below = dite (ℕ_discrete k me)
    (λ e. ap (λ (j : ℕ). queues (set ranks me x) j) e
    ∙ ap (λ (s : RankSide). s.queue) (get_or-set_same ranks me x no_side (subst (λ (j : ℕ). j < length ranks) e below))
    ∙ sym (ap (λ (j : ℕ). put (queues ranks) me x.queue j) e ∙ put_here (queues ranks) me x.queue))
    (λ ne. ap (λ (s : RankSide). s.queue) (get_or-set_other ranks me k x no_side ne) ∙ sym (put_elsewhere (queues ranks) me x.queue k ne))

-- a run of moves is a run of events
pub record Played (w : Seen) (moves : List (ℕ × Move)) (from to : Stage) : Type 0 where
  pub reaches : Reaches w (events_of_all moves) to.told (queues to.ranks)
  pub ranks : length to.ranks ≡ length from.ranks

-- one move of a run
pub step_reaches : (o : Options) → o.stop_after ≡ None → (m : ℕ × Move) (w : Seen) (from : Stage) (x : RankSide) (t : Told) → Halts o from
    → Shows w from.told (queues from.ranks)
    → length from.ranks ≡ length w.0
    → Does o m.0 m.1 (side (rank_side from m.0) from.told) (side x t) → Reaches w (events_of m.0 m.1) t (queues (set from.ranks m.0 x))
step_reaches o endless m w from x t halts shows sized does =
    reaches_queues w (events_of m.0 m.1) t (queues (set from.ranks m.0 x)) (put (queues from.ranks) m.0 x.queue)
    (λ k below. queues-set from.ranks m.0 x k (subst (λ (n : ℕ). k < n) (sym sized) below))
    (move_reaches o endless m.1 w from.told t (queues from.ranks) (rank_side from m.0) x m.0 (quiet o from endless halts) shows refl does)

pub moves_reach : (o : Options) → o.stop_after ≡ None → (moves : List (ℕ × Move)) (w : Seen) (from to : Stage) → Halts o from
    → Shows w from.told (queues from.ranks) → length from.ranks ≡ length w.0
    → Plays o moves from to → Played w moves from to
moves_reach o endless [] w from to halts shows sized same = record {
  reaches = subst (λ (s : Stage). Reaches w [] s.told (queues s.ranks)) (sym same) (reaches_nothing w from.told (queues from.ranks) shows);
  ranks = ap (λ (s : Stage). length s.ranks) same;
}
moves_reach o endless (m ∷ moves) w from to halts shows sized (x, t, does, plays) =
    let mid : Stage = record { ranks = set from.ranks m.0 x; told = t } in
    let first : Reaches w (events_of m.0 m.1) t (queues mid.ranks) = step_reaches o endless m w from x t halts shows sized does in
    let same : length mid.ranks ≡ length from.ranks = length-set from.ranks m.0 x in
    let rest : Played (after_all w (events_of m.0 m.1)) moves mid to =
    moves_reach o endless moves (after_all w (events_of m.0 m.1)) mid to (halt_step o from m.0 m.1 x t does halts) first.shows
    (same ∙ sized ∙ sym first.sized) plays in
    record {
      reaches = reaches_more w (events_of m.0 m.1) (events_of_all moves) t to.told (queues mid.ranks) (queues to.ranks) first rest.reaches;
      ranks = rest.ranks ∙ same;
    }

dealt_one : (b : Bool) (s : List ℕ) (rest : Strings) → length (cond b (s ∷ []) [] ++ rest) ≡ cond b 1 0 + length rest
dealt_one true s rest = omega arith
dealt_one false s rest = omega arith

dealt_as_many : (n r k : ℕ) (starts : Strings) → length (dealt_from n r k starts) ≡ count_by (λ j. j % n == r) (range_with_len k (length starts))
dealt_as_many n r k [] = refl
dealt_as_many n r k (s ∷ starts) =
    let rest : length (dealt_from n r (suc k) starts) ≡ count_by (λ j. j % n == r) (range_with_len (k + 1) (length starts)) =
    ap (λ (j : ℕ). length (dealt_from n r j starts)) (let e : suc k ≡ k + 1 = omega arith in e) ∙ dealt_as_many n r (k + 1) starts in
    dealt_one (k % n == r) s (dealt_from n r (suc k) starts) ∙ ap (λ (j : ℕ). cond (k % n == r) 1 0 + j) rest
    ∙ sym (sum_by-cons (λ (j : ℕ). cond (j % n == r) 1 0) k (range_with_len (k + 1) (length starts)))

pub shows_begun : (o : Options) (starts : Strings) → Shows (started o.ranks (length starts)) (begun o starts).told (queues (begun o starts).ranks)
shows_begun o starts =
    let n : ℕ = o.ranks in
    let sized : length (started n (length starts)).0 ≡ n = length-map-range_with_len (λ r. fresh (dealt n (length starts) r)) 0 n in
    record {
      shape = record {
        sized = sized ∙ sym (length-replicate n new_place);
        states = λ r below. (let inside : r < n = subst (λ (k : ℕ). r < k) sized below in
            get_or-map-range_with_len (λ r. fresh (dealt n (length starts) r)) 0 n r r (fresh 0) inside (omega arith)
            ∙ ap fresh (sym (dealt_as_many n r 0 starts))
            ∙ sym (ap (λ (x : Place). state_of (queues (begun o starts).ranks r) x) (get_or-replicate n r new_place no_place inside)
            ∙ ap (λ (x : RankSide). state_of x.queue new_place) (side_begun o starts r inside)));
      };
      token = refl;
    }

abbrev world : List RankState → Token → Seen
world ranks token = (ranks, token)

same_world : (w v : Seen) → w.0 ≡ v.0 → w.1 ≡ v.1 → w ≡ v
same_world w v ranks token = ap (λ (x : List RankState). world x w.1) ranks ∙ ap (λ (x : Token). world v.0 x) token

-- what is played from the start is a run to the world of the stage
pub record FromStart (o : Options) (starts : Strings) (moves : List (ℕ × Move)) (stage : Stage) : Type 0 where
  pub reaches : Reaches (started o.ranks (length starts)) (events_of_all moves) stage.told (queues stage.ranks)
  pub as_many : length (after_all (started o.ranks (length starts)) (events_of_all moves)).0 ≡ length stage.ranks

pub from_start : (o : Options) (starts : Strings) (moves : List (ℕ × Move)) (stage : Stage) → o.stop_after ≡ None → Plays o moves (begun o starts) stage
    → FromStart o starts moves stage
from_start o starts moves stage endless plays =
    let w : Seen = started o.ranks (length starts) in
    let sized : length w.0 ≡ o.ranks = length-map-range_with_len (λ r. fresh (dealt o.ranks (length starts) r)) 0 o.ranks in
    let played : Played w moves (begun o starts) stage =
    moves_reach o endless moves w (begun o starts) stage (begun_halts o starts) (shows_begun o starts) (ranks_begun o starts ∙ sym sized) plays in
    record { reaches = played.reaches; as_many = played.reaches.sized ∙ sized ∙ sym (ranks_begun o starts) ∙ sym played.ranks }

pub moves_are_legal_run : MovesAreLegalRun
moves_are_legal_run o starts moves stage endless plays =
    let f : FromStart o starts moves stage = from_start o starts moves stage endless plays in
    let end : Seen = after_all (started o.ranks (length starts)) (events_of_all moves) in
    let ranks : end.0 ≡ (world_of stage).0 =
    fill_by_all (λ r. state_of (rank_side stage r).queue (place stage.told r)) end.0 (length stage.ranks) (fresh 0) f.as_many
    (λ r below. f.reaches.shows.shape.states r (subst (λ (k : ℕ). r < k) (sym f.as_many) below)) in
    record { run = f.reaches.run; after = same_world end (world_of stage) ranks f.reaches.shows.token }
