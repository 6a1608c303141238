-- The log of a rank is what it handled, in order, and so do the events of a run tell it.
use Rattle.circle_run.proofs.Prelude.{◌≡◌, ℕ, ◌≤◌, ◌≢◌, ⊎_elim, refl, sym, subst, ap, ◌∙◌, arith, Bool, cond, List, [], ◌∷◌, ◌++◌, map, length, length-set, set}
use Rattle.circle_run.proofs.Prelude.{get_or, get_or-set_same, get_or-set_other, append-nil, append_assoc, eq-eqb, ne_eqb, flat_map, cases_lt, set_past}
use Rattle.circle_run.proofs.Prelude.{get_or_past, map-append, flat_map-append, dite, ℕ_discrete, Strings, Deed, ask, give, refuse, take, take_none, pass}
use Rattle.circle_run.proofs.Prelude.{restart, conclude, see_over, event_of, Log, withdraw, halt, stop, Move, handled, served, did, noted, answer_of, events_of}
use Rattle.circle_run.proofs.Prelude.{RankSide, Stage, no_side, rank_side, Plays, events_of_all, begun, handled_in, moves_of, handled_at, LogsAreHandled}
use Rattle.circle_run.proofs.Prelude.{EventsTellLogs, Options}
use Rattle.circle_run.proofs.Begun.{ranks_begun, places_begun, side_begun}
use Rattle.circle_run.proofs.Flows.{Moved, moved}

abbrev log_of : List RankSide → ℕ → Log
log_of ranks r = (get_or ranks r no_side).log

-- the log at the place that is written, where one that is past the end gets nothing
log-set : (ranks : List RankSide) (me : ℕ) (y : RankSide) (more : Log) → y.log ≡ log_of ranks me ++ more → (length ranks ≤ me → more ≡ [])
    → log_of (set ranks me y) me ≡ log_of ranks me ++ more
log-set ranks me y more log past = ⊎_elim
    (λ inside. ap (λ (x : RankSide). x.log) (get_or-set_same ranks me y no_side inside) ∙ log)
    (λ h. ap (λ (xs : List RankSide). log_of xs me) (set_past ranks me y h)
    ∙ sym (ap (λ (l : Log). log_of ranks me ++ l) (past h) ∙ append-nil (log_of ranks me))) (cases_lt me (length ranks))

-- the moves of a rank, where the next is its own or another's
moves_of-own : (m : ℕ × Move) (moves : List (ℕ × Move)) (r : ℕ) → m.0 ≡ r → moves_of r (m ∷ moves) ≡ m.1 ∷ moves_of r moves
moves_of-own m moves r e = ap (λ (b : Bool). cond b (m.1 ∷ []) [] ++ moves_of r moves) (eq-eqb m.0 r e)

moves_of-other : (m : ℕ × Move) (moves : List (ℕ × Move)) (r : ℕ) → m.0 ≢ r → moves_of r (m ∷ moves) ≡ moves_of r moves
moves_of-other m moves r ne = ap (λ (b : Bool). cond b (m.1 ∷ []) [] ++ moves_of r moves) (ne_eqb m.0 r ne)

abbrev logged : ℕ → List (ℕ × Move) → Log
logged r moves = flat_map handled_in (moves_of r moves)

logs : (o : Options) (n : ℕ) (moves : List (ℕ × Move)) (from to : Stage) (r : ℕ) → length from.ranks ≡ n → length from.told.places ≡ n
    → Plays o moves from to → log_of to.ranks r ≡ log_of from.ranks r ++ logged r moves
logs o n [] from to r ranks places same = ap (λ (s : Stage). log_of s.ranks r) same ∙ sym (append-nil (log_of from.ranks r))
logs o n (m ∷ moves) from to r ranks places (y, u, does, plays) =
    let mid : Stage = record { ranks = set from.ranks m.0 y; told = u } in
    let step : Moved m.0 m.1 (rank_side from m.0) y from.told u = moved o m.0 m.1 (rank_side from m.0) y from.told u does in
    let rest : log_of to.ranks r ≡ log_of mid.ranks r ++ logged r moves =
    logs o n moves mid to r (length-set from.ranks m.0 y ∙ ranks) (step.places ∙ places) plays in
    let idle : length from.ranks ≤ m.0 → handled_in m.1 ≡ [] = λ past. ap handled_in (step.outside (omega arith)) in
    dite (ℕ_discrete m.0 r)
    (λ e. (let own : log_of mid.ranks r ≡ log_of from.ranks r ++ handled_in m.1 =
    subst (λ (k : ℕ). log_of mid.ranks k ≡ log_of from.ranks k ++ handled_in m.1) e (log-set from.ranks m.0 y (handled_in m.1) step.log idle) in
    rest ∙ ap (λ (l : Log). l ++ logged r moves) own ∙ append_assoc (log_of from.ranks r) (handled_in m.1) (logged r moves)
    ∙ ap (λ (ms : List Move). log_of from.ranks r ++ flat_map handled_in ms) (sym (moves_of-own m moves r e))))
    (λ ne. rest ∙ ap (λ (x : RankSide). x.log ++ logged r moves) (get_or-set_other from.ranks m.0 r y no_side (λ e. ne (sym e)))
    ∙ ap (λ (ms : List Move). log_of from.ranks r ++ flat_map handled_in ms) (sym (moves_of-other m moves r ne)))

begun_without_log : (o : Options) (starts : Strings) (r : ℕ) → log_of (begun o starts).ranks r ≡ []
begun_without_log o starts r = ⊎_elim
    (λ inside. ap (λ (x : RankSide). x.log) (side_begun o starts r inside))
    (λ past. ap (λ (x : RankSide). x.log) (get_or_past (begun o starts).ranks r no_side (let e = ranks_begun o starts in omega arith)))
    (cases_lt r o.ranks)

pub logs_are_handled : LogsAreHandled
logs_are_handled o starts moves stage plays r =
    logs o o.ranks moves (begun o starts) stage r (ranks_begun o starts) (places_begun o starts) plays
    ∙ ap (λ (l : Log). l ++ logged r moves) (begun_without_log o starts r)

-- a string that was handled, and how many came for it
abbrev pair_of : List ℕ × Strings → List ℕ × ℕ
pair_of x = (x.0, length x.1)

deed_handles_nothing : (r me : ℕ) (d : Deed) → handled_at r (event_of me d) ≡ []
deed_handles_nothing r me (ask v) = refl
deed_handles_nothing r me (give to b) = refl
deed_handles_nothing r me (refuse to) = refl
deed_handles_nothing r me (take from b) = refl
deed_handles_nothing r me (take_none from) = refl
deed_handles_nothing r me (pass c) = refl
deed_handles_nothing r me restart = refl
deed_handles_nothing r me conclude = refl
deed_handles_nothing r me see_over = refl

answers_handle_nothing : (r me : ℕ) (answers : List (ℕ × Strings)) → flat_map (handled_at r) (map (λ x. event_of me (answer_of x)) answers) ≡ []
answers_handle_nothing r me [] = refl
answers_handle_nothing r me (x ∷ xs) =
    ap (λ (l : List (List ℕ × ℕ)). l ++ flat_map (handled_at r) (map (λ x. event_of me (answer_of x)) xs))
    (deed_handles_nothing r me (answer_of x)) ∙ answers_handle_nothing r me xs

own_handled : (r me : ℕ) (m : Move) → me ≡ r → flat_map (handled_at r) (events_of me m) ≡ map pair_of (handled_in m)
own_handled r me (handled path kids) e = ap (λ (b : Bool). cond b ((path, length kids) ∷ []) [] ++ []) (eq-eqb me r e)
own_handled r me (served answers) e = answers_handle_nothing r me answers
own_handled r me (did d) e = ap (λ (l : List (List ℕ × ℕ)). l ++ []) (deed_handles_nothing r me d)
own_handled r me (noted (withdraw from)) e = refl
own_handled r me (noted halt) e = refl
own_handled r me (noted stop) e = refl

none_handled : (r me : ℕ) (m : Move) → me ≢ r → flat_map (handled_at r) (events_of me m) ≡ []
none_handled r me (handled path kids) ne = ap (λ (b : Bool). cond b ((path, length kids) ∷ []) [] ++ []) (ne_eqb me r ne)
none_handled r me (served answers) ne = answers_handle_nothing r me answers
none_handled r me (did d) ne = ap (λ (l : List (List ℕ × ℕ)). l ++ []) (deed_handles_nothing r me d)
none_handled r me (noted (withdraw from)) ne = refl
none_handled r me (noted halt) ne = refl
none_handled r me (noted stop) ne = refl

events_tell : (r : ℕ) (moves : List (ℕ × Move)) → flat_map (handled_at r) (events_of_all moves) ≡ map pair_of (logged r moves)
events_tell r [] = refl
events_tell r (m ∷ moves) =
    flat_map-append (handled_at r) (events_of m.0 m.1) (events_of_all moves)
    ∙ ap (λ (l : List (List ℕ × ℕ)). flat_map (handled_at r) (events_of m.0 m.1) ++ l) (events_tell r moves)
    ∙ dite (ℕ_discrete m.0 r)
    (λ e. ap (λ (l : List (List ℕ × ℕ)). l ++ map pair_of (logged r moves)) (own_handled r m.0 m.1 e)
    ∙ sym (ap (λ (ms : List Move). map pair_of (flat_map handled_in ms)) (moves_of-own m moves r e) ∙ map-append pair_of (handled_in m.1) (logged r moves)))
    (λ ne. ap (λ (l : List (List ℕ × ℕ)). l ++ map pair_of (logged r moves)) (none_handled r m.0 m.1 ne)
    ∙ ap (λ (ms : List Move). map pair_of (flat_map handled_in ms)) (sym (moves_of-other m moves r ne)))

pub events_tell_logs : EventsTellLogs
events_tell_logs o starts moves stage plays r = events_tell r moves ∙ ap (map pair_of) (sym (logs_are_handled o starts moves stage plays r))
