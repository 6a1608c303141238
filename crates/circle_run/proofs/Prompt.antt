-- A rank handles a string only while no other rank asks it.
use Rattle.circle_run.proofs.Prelude.{◌≡◌, ℕ, zero, suc, ◌+◌, ◌<◌, ◌≢◌, ◌==◌, refl, sym, subst, ap, ◌∙◌, arith, Bool, true, false, cond, ◌&&◌, List, [], ◌∷◌}
use Rattle.circle_run.proofs.Prelude.{◌++◌, length, set, get_or, eq-eqb, ne_eqb, filter, range_with_len, length-range_with_len, get_or-range_with_len}
use Rattle.circle_run.proofs.Prelude.{RankState, Event, Handle, Seen, started, after, after_all, Strings, Mail, vacant, asked, full, empty, Told, place, Move}
use Rattle.circle_run.proofs.Prelude.{handled, served, did, noted, events_of, Does, asks, askers, RankSide, Stage, rank_side, side, Plays, events_of_all, begun}
use Rattle.circle_run.proofs.Prelude.{desk_of, handles, NobodyAsked, AnswersFirst, MovesAnswerFirst, Options}
use Rattle.std.proofs.Common.{not}
use Rattle.ring_core.specs.Step as step_of_world
use Rattle.circle_run.proofs.Stopping.{moves_halt, quiet, never_late}
use Rattle.circle_run.proofs.Actors.{NoHandle, answers_handle, deed_handles}
use Rattle.circle_run.proofs.Reaching.{Reached, step, reached_at_start}

-- where a filter lets nothing through, each element fails its test
first_or_later : (p : ℕ → Bool) (x : ℕ) (xs : List ℕ) (i d : ℕ) → p x ≡ false → ((j : ℕ) → j < length xs → p (get_or xs j d) ≡ false)
    → i < length (x ∷ xs) → p (get_or (x ∷ xs) i d) ≡ false
first_or_later p x xs zero d here later inside = here
first_or_later p x xs (suc i) d here later inside = later i (omega arith)

none_pass : (p : ℕ → Bool) (xs : List ℕ) (i d : ℕ) → filter p xs ≡ [] → i < length xs → p (get_or xs i d) ≡ false
none_pass p [] i d none inside = absurd (omega arith)
none_pass p (x ∷ xs) i d none inside = elim (p x) as (λ b. p x ≡ b → cond b (x ∷ filter p xs) (filter p xs) ≡ [] → p (get_or (x ∷ xs) i d) ≡ false) [
  | true ↦ λ e f. cc
  | false ↦ λ e f. first_or_later p x xs i d e (λ j h. none_pass p xs j d f h) inside
] refl none

both_fail : (a b : Bool) → a ≡ false → (not a && b) ≡ false → b ≡ false
both_fail true b e f = cc
both_fail false b e f = f

same_request : (m : Mail) (me : ℕ) → step_of_world.asks (desk_of m) me ≡ asks me m
same_request vacant me = refl
same_request (asked r) me = refl
same_request (full r b) me = refl
same_request (empty r) me = refl

unasked : (me : ℕ) (t : Told) (s : ℕ) → askers me t ≡ [] → s < length t.places → s ≢ me → asks me (place t s).mail ≡ false
unasked me t s none inside ne =
    let n : ℕ = length t.places in
    let at : get_or (range_with_len 0 n) s 0 ≡ s = get_or-range_with_len 0 n s 0 inside ∙ (let e : 0 + s ≡ s = omega arith in e) in
    let fails : (not (s == me) && asks me (place t s).mail) ≡ false =
    subst (λ (k : ℕ). (not (k == me) && asks me (place t k).mail) ≡ false) at
    (none_pass (λ (r : ℕ). not (r == me) && asks me (place t r).mail) (range_with_len 0 n) s 0 none
    (let e : length (range_with_len 0 n) ≡ n = length-range_with_len 0 n in omega arith)) in
    both_fail (s == me) (asks me (place t s).mail) (ne_eqb s me ne) fails

quiet_event : (w : Seen) (event : Event) → ((r : ℕ) → handles r event ≡ false) → NobodyAsked w event
quiet_event w (Handle rank path kids) none = (let e : true ≡ false = sym (eq-eqb rank rank refl) ∙ none rank in cc)
quiet_event w _ none = tt

AnswersFirst-append : (xs ys : List Event) (w : Seen) → NoHandle xs → AnswersFirst (after_all w xs) ys → AnswersFirst w (xs ++ ys)
AnswersFirst-append [] ys w none rest = rest
AnswersFirst-append (x ∷ xs) ys w (here, none) rest = (quiet_event w x here, AnswersFirst-append xs ys (after w x) none rest)

move_answers_first : (o : Options) (starts : Strings) (past : List (ℕ × Move)) (w : Seen) (from : Stage) (me : ℕ) (m : Move) (x : RankSide)
    (t : Told) (ys : List Event)
    → Reached o starts past w from → Does o me m (side (rank_side from me) from.told) (side x t)
    → AnswersFirst (after_all w (events_of me m)) ys → AnswersFirst w (events_of me m ++ ys)
move_answers_first o starts past w from me (handled path kids) x t ys reached does rest = (
  λ s below ne. ap (λ (z : RankState). step_of_world.asks z.desk me) (reached.shows.shape.states s below) ∙ same_request (place from.told s).mail me
      ∙ unasked me from.told s does.unasked (subst (λ (n : ℕ). s < n) reached.shows.shape.sized below) ne,
  rest,
)
move_answers_first o starts past w from me (served answers) x t ys reached does rest =
    AnswersFirst-append (events_of me (served answers)) ys w (answers_handle me answers) rest
move_answers_first o starts past w from me (did d) x t ys reached does rest = AnswersFirst-append (events_of me (did d)) ys w (deed_handles me d, tt) rest
move_answers_first o starts past w from me (noted late) x t ys reached does rest =
    absurd (never_late o me late (rank_side from me) x from.told t reached.endless
    (quiet o from reached.endless (moves_halt o starts past from reached.plays)) does)

all_answer_first : (o : Options) (starts : Strings) (moves past : List (ℕ × Move)) (w : Seen) (from to : Stage)
    → Reached o starts past w from → Plays o moves from to → AnswersFirst w (events_of_all moves)
all_answer_first o starts [] past w from to reached same = tt
all_answer_first o starts (m ∷ moves) past w from to reached (x, t, does, plays) =
    move_answers_first o starts past w from m.0 m.1 x t (events_of_all moves) reached does
    (all_answer_first o starts moves (past ++ m ∷ []) (after_all w (events_of m.0 m.1))
    (record { ranks = set from.ranks m.0 x; told = t }) to (step o starts past w from m x t reached does) plays)

pub moves_answer_first : MovesAnswerFirst
moves_answer_first o starts moves stage endless plays =
    all_answer_first o starts moves [] (started o.ranks (length starts)) (begun o starts) stage (reached_at_start o starts endless) plays
