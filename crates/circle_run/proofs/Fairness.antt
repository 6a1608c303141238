-- Turns in rounds are fair.
use Rattle.circle_run.proofs.Prelude.{◌≡◌, ℕ, suc, ◌+◌, ◌-◌, ◌%◌, ◌<◌, ◌≤◌, ◌≢◌, ◌⊎◌, inl, inr, ⊎_elim, refl, sym, subst, ap, ◌∙◌, arith, true, false, List, []}
use Rattle.circle_run.proofs.Prelude.{◌∷◌, ◌++◌, length, set, eq-eqb, None, flat_map-append, dite, ℕ_discrete, RankState, Event, Handle, Ask, Give, Refuse}
use Rattle.circle_run.proofs.Prelude.{Take, TakeNone, Pass, Restart, Conclude, SeeOver, Seen, started, after, after_all, Strings, Mail, vacant, asked, full}
use Rattle.circle_run.proofs.Prelude.{empty, Told, place, Late, halt, Move, handled, served, did, noted, Side, events_of, Does, RankSide, Stage, rank_side}
use Rattle.circle_run.proofs.Prelude.{side, Plays, events_of_all, begun, desk_of, NothingWaitsAtEnd, handles, ComesBefore, is_asking, LetsOthers, IsFair}
use Rattle.circle_run.proofs.Prelude.{HandlesLast, moves_in, is_waiting, PlaysTurns, moves_of_turns, TurnsArePlayed, RoundsAreFair, Options}
use Rattle.circle_run.proofs.Stopping.{moves_halt, quiet, never_late}
use Rattle.circle_run.proofs.Deeds.{some_is}
use Rattle.circle_run.proofs.Actors.{By, turn_by, comes_later, comes_now, NoHandle, NoHandle-append, nil_or_some, never_again, answers_handle, deed_handles}
use Rattle.circle_run.proofs.Lasting.{Plays-append, Ended, Waits, move_keeps_end, move_handles, turn_others, plays_waited}
use Rattle.circle_run.proofs.Reaching.{Reached, step, reached_at_start}
use Rattle.circle_run.proofs.Rotation.{NextTurn, next_turn}

turns_played : (o : Options) (turns : List (List Move)) (k : ℕ) (from to : Stage) → PlaysTurns o k turns from to
    → Plays o (moves_of_turns o.ranks k turns) from to
turns_played o [] k from to same = same
turns_played o (turn ∷ turns) k from to (mid, last, plays, idle, rest) =
    Plays-append o (moves_in (k % o.ranks) turn) (moves_of_turns o.ranks (suc k) turns) from mid to plays (turns_played o turns (suc k) mid to rest)

pub turns_are_played : TurnsArePlayed
turns_are_played o turns from to plays = turns_played o turns 0 from to plays

module _ (at_end : NothingWaitsAtEnd) (o : Options) (starts : Strings) (endless : o.stop_after ≡ None) where
  never_handles : (past moves : List (ℕ × Move)) (from to : Stage) (s : ℕ) → Plays o past (begun o starts) from → Plays o moves from to
      → Ended (place from.told s) → NoHandle (events_of_all moves)
  never_handles past [] from to s before plays ended = tt
  never_handles past (m ∷ moves) from to s before (x, t, does, plays) ended =
      let mid : Stage = record { ranks = set from.ranks m.0 x; told = t } in
      NoHandle-append (events_of m.0 m.1) (events_of_all moves)
      (move_handles o m.0 m.1 (rank_side from m.0) x from.told t does ((at_end o starts past from s endless before ended).queues m.0))
      (never_handles (past ++ m ∷ []) moves mid to s (Plays-append o past (m ∷ []) (begun o starts) from mid before (x, t, does, refl)) plays
      (move_keeps_end o m.0 m.1 (rank_side from m.0) x from.told t s does ended))

  -- while turns go on, who is not the rank r and has a turn before it has an event before r handles a string, or waited from the beginning
  owed : (turns : List (List Move)) (past : List (ℕ × Move)) (k : ℕ) (from to : Stage) (r s i : ℕ) → Plays o past (begun o starts) from
      → PlaysTurns o k turns from to
      → (k + i) % o.ranks ≡ s → ((j : ℕ) → j ≤ i → (k + j) % o.ranks ≢ r)
      → ComesBefore s r (events_of_all (moves_of_turns o.ranks k turns)) ⊎ Waits (place from.told s)
  owed [] past k from to r s i before plays own other = inl tt
  owed (turn ∷ turns) past k from to r s i before (mid, last, plays, idle, rest) own other =
      let a : ℕ = k % o.ranks in
      let here : List (ℕ × Move) = moves_in a turn in
      let later : List (ℕ × Move) = moves_of_turns o.ranks (suc k) turns in
      let both : events_of_all (here ++ later) ≡ events_of_all here ++ events_of_all later = flat_map-append (λ (m : ℕ × Move). events_of m.0 m.1) here later in
      let join : (ComesBefore s r (events_of_all here ++ events_of_all later))
      → ComesBefore s r (events_of_all (here ++ later)) = λ c. subst (ComesBefore s r) (sym both) c in
      dite (ℕ_discrete a s)
      (λ e. ⊎_elim
      (λ none. ⊎_elim
      (λ waits. inr (subst (λ (q : ℕ). Waits (place from.told q)) e waits))
      (λ gone. ⊎_elim
      (λ ended. inl (never_again s r (events_of_all (here ++ later))
      (never_handles past (here ++ later) from to a before (turns_played o (turn ∷ turns) k from to (mid, last, plays, idle, rest)) ended)))
      (λ stopped. (let all = moves_halt o starts (past ++ here) mid (Plays-append o past here (begun o starts) from mid before plays) in
      let f : true ≡ false = sym stopped ∙ (quiet o mid endless all).1 a in cc)) gone)
      (idle none))
      (λ some. inl (join (comes_now s r (events_of_all here) (events_of_all later) (subst (λ (q : ℕ). By q (events_of_all here)) e (turn_by a turn)) some)))
      (nil_or_some (events_of_all here)))
      (λ ne. (let first : (k + 0) % o.ranks ≡ a = ap (λ (q : ℕ). q % o.ranks) (let z : k + 0 ≡ k = omega arith in z) in
      let more : i ≢ 0 = λ z. ne (sym first ∙ ap (λ (q : ℕ). (k + q) % o.ranks) (sym z) ∙ own) in
      let step : (j : ℕ) → suc k + j ≡ k + suc j = λ j. omega arith in
      let final : suc k + (i - 1) ≡ k + i = omega arith in
      let own' : (suc k + (i - 1)) % o.ranks ≡ s = ap (λ (q : ℕ). q % o.ranks) final ∙ own in
      let other' : (j : ℕ) → j ≤ i - 1 → (suc k + j) % o.ranks ≢ r = λ j le e. other (suc j) (omega arith) (ap (λ (q : ℕ). q % o.ranks) (sym (step j)) ∙ e) in
      let not_r : a ≢ r = λ e. other 0 (omega arith) (first ∙ e) in
      ⊎_elim
      (λ comes. inl (join (comes_later s r a (events_of_all here) (events_of_all later) (turn_by a turn) not_r comes)))
      (λ waits. inr (plays_waited o here from mid s (turn_others a s turn ne) plays waits))
      (owed turns (past ++ here) (suc k) mid to r s (i - 1) (Plays-append o past here (begun o starts) from mid before plays) rest own' other')))

-- events by which no string is handled let others as they will
lets : (w : Seen) (event : Event) (events : List Event) → ((r : ℕ) → handles r event ≡ false) → LetsOthers w event events
lets w (Handle rank path kids) events none = (let e : true ≡ false = sym (eq-eqb rank rank refl) ∙ none rank in cc)
lets w (Ask rank victim) events none = tt
lets w (Give rank to count) events none = tt
lets w (Refuse rank to) events none = tt
lets w (Take rank from count) events none = tt
lets w (TakeNone rank from) events none = tt
lets w (Pass rank colour) events none = tt
lets w (Restart rank) events none = tt
lets w (Conclude rank) events none = tt
lets w (SeeOver rank) events none = tt

IsFair-append : (xs ys : List Event) (w : Seen) → NoHandle xs → IsFair (after_all w xs) ys → IsFair w (xs ++ ys)
IsFair-append [] ys w none fair = fair
IsFair-append (x ∷ xs) ys w (here, none) fair = (lets w x (xs ++ ys) here, IsFair-append xs ys (after w x) none fair)

asking_is_waiting : (m : Mail) → is_asking (desk_of m) ≡ is_waiting m
asking_is_waiting vacant = refl
asking_is_waiting (asked r) = refl
asking_is_waiting (full r b) = refl
asking_is_waiting (empty r) = refl

module _ (at_end : NothingWaitsAtEnd) (o : Options) (starts : Strings) (some : 0 < o.ranks) (endless : o.stop_after ≡ None) where
  abbrev later_events : ℕ → List (List Move) → List Event
  later_events k turns = events_of_all (moves_of_turns o.ranks (suc k) turns)

  -- a string is handled, as the last but for a halt, with the turns after it
  handled_is_fair : (turns : List (List Move)) (past : List (ℕ × Move)) (k : ℕ) (w : Seen) (from to : Stage) (path : List ℕ) (kids : Strings) (x : RankSide)
      (t : Told) → Reached o starts past w from → Does o (k % o.ranks) (handled path kids) (side (rank_side from (k % o.ranks)) from.told) (side x t)
      → PlaysTurns o (suc k) turns (record { ranks = set from.ranks (k % o.ranks) x; told = t }) to
      → IsFair (after_all w (events_of (k % o.ranks) (handled path kids))) (later_events k turns)
      → IsFair w (events_of (k % o.ranks) (handled path kids) ++ later_events k turns)
  handled_is_fair turns past k w from to path kids x t reached does rest fair =
      let a : ℕ = k % o.ranks in
      let mid : Stage = record { ranks = set from.ranks a x; told = t } in
      let same : t ≡ from.told = some_is t from.told (ap (λ (z : Side). z.told) does.after) in
      let plays : Plays o (past ++ (a, handled path kids) ∷ []) (begun o starts) mid =
      (step o starts past w from (a, handled path kids) x t reached does).plays in (
        λ s below ne. (let turn : NextTurn o.ranks k s = next_turn o.ranks k s some (subst (λ (n : ℕ). s < n) reached.sized below) ne in
            ⊎_elim (λ comes. inl comes)
            (λ waits. inr (ap (λ (z : RankState). is_asking z.desk) (reached.shows.shape.states s below)
            ∙ asking_is_waiting (place from.told s).mail ∙ subst (λ (u : Told). Waits (place u s)) same waits))
            (owed at_end o starts endless turns (past ++ (a, handled path kids) ∷ []) (suc k) mid to a s turn.wait plays rest turn.own turn.other)),
        fair,
      )

  -- in a run that stops after no number nobody notes anything
  no_note : (past : List (ℕ × Move)) (w : Seen) (from : Stage) (me : ℕ) (late : Late) (x : RankSide) (t : Told) → Reached o starts past w from
      → Does o me (noted late) (side (rank_side from me) from.told) (side x t) → ⊥
  no_note past w from me late x t reached does =
      never_late o me late (rank_side from me) x from.told t endless (quiet o from endless (moves_halt o starts past from reached.plays)) does

  -- the moves of a turn, with the turns after it
  turn_is_fair : (turns : List (List Move)) (k : ℕ) (mid to : Stage) → PlaysTurns o (suc k) turns mid to
      → ((past : List (ℕ × Move)) (w : Seen) → Reached o starts past w mid → IsFair w (later_events k turns))
      → (turn : List Move) (past : List (ℕ × Move)) (w : Seen) (from : Stage) → HandlesLast turn → Reached o starts past w from
      → Plays o (moves_in (k % o.ranks) turn) from mid
      → IsFair w (events_of_all (moves_in (k % o.ranks) turn ++ moves_of_turns o.ranks (suc k) turns))
  turn_is_fair turns k mid to rest later [] past w from last reached same = later past w (subst (Reached o starts past w) (sym same) reached)
  turn_is_fair turns k mid to rest later (handled path kids ∷ []) past w from last reached (x, t, does, same) =
      let a : ℕ = k % o.ranks in
      let m : Move = handled path kids in
      let after_it : Stage = record { ranks = set from.ranks a x; told = t } in
      let reached' : Reached o starts (past ++ (a, m) ∷ []) (after_all w (events_of a m)) after_it = step o starts past w from (a, m) x t reached does in
      handled_is_fair turns past k w from to path kids x t reached does (subst (λ (z : Stage). PlaysTurns o (suc k) turns z to) same rest)
      (later (past ++ (a, m) ∷ []) (after_all w (events_of a m))
      (subst (Reached o starts (past ++ (a, m) ∷ []) (after_all w (events_of a m))) (sym same) reached'))
  turn_is_fair turns k mid to rest later (handled path kids ∷ (next ∷ turn)) past w from (inl none, last) reached plays =
      absurd (let l : length (next ∷ turn) ≡ 0 = ap length none in omega arith)
  turn_is_fair turns k mid to rest later (handled path kids ∷ (next ∷ turn)) past w from (inr halts, last) reached (x, t, does, plays) =
      let a : ℕ = k % o.ranks in
      let after_it : Stage = record { ranks = set from.ranks a x; told = t } in
      let (y, u, late, same) = subst (λ (ms : List Move). Plays o (moves_in a ms) after_it mid) halts plays in
      absurd (no_note (past ++ (a, handled path kids) ∷ []) (after_all w (events_of a (handled path kids))) after_it a halt y u
      (step o starts past w from (a, handled path kids) x t reached does) late)
  turn_is_fair turns k mid to rest later (served answers ∷ turn) past w from (follows, last) reached (x, t, does, plays) =
      let a : ℕ = k % o.ranks in
      let m : Move = served answers in
      IsFair-append (events_of a m) (events_of_all (moves_in a turn ++ moves_of_turns o.ranks (suc k) turns)) w (answers_handle a answers)
      (turn_is_fair turns k mid to rest later turn (past ++ (a, m) ∷ []) (after_all w (events_of a m)) (record { ranks = set from.ranks a x; told = t }) last
      (step o starts past w from (a, m) x t reached does) plays)
  turn_is_fair turns k mid to rest later (did d ∷ turn) past w from (follows, last) reached (x, t, does, plays) =
      let a : ℕ = k % o.ranks in
      let m : Move = did d in
      IsFair-append (events_of a m) (events_of_all (moves_in a turn ++ moves_of_turns o.ranks (suc k) turns)) w (deed_handles a d, tt)
      (turn_is_fair turns k mid to rest later turn (past ++ (a, m) ∷ []) (after_all w (events_of a m)) (record { ranks = set from.ranks a x; told = t }) last
      (step o starts past w from (a, m) x t reached does) plays)
  turn_is_fair turns k mid to rest later (noted late ∷ turn) past w from last reached (x, t, does, plays) =
      absurd (no_note past w from (k % o.ranks) late x t reached does)

  turns_are_fair : (turns : List (List Move)) (past : List (ℕ × Move)) (k : ℕ) (w : Seen) (from to : Stage) → Reached o starts past w from
      → PlaysTurns o k turns from to
      → IsFair w (events_of_all (moves_of_turns o.ranks k turns))
  turns_are_fair [] past k w from to reached same = tt
  turns_are_fair (turn ∷ turns) past k w from to reached (mid, last, plays, idle, rest) =
      turn_is_fair turns k mid to rest (λ past w reached. turns_are_fair turns past (suc k) w mid to reached rest) turn past w from last reached plays

pub rounds_are_fair : NothingWaitsAtEnd → RoundsAreFair
rounds_are_fair at_end o starts turns stage some endless plays =
    turns_are_fair at_end o starts some endless turns [] 0 (started o.ranks (length starts)) (begun o starts) stage
    (reached_at_start o starts endless) plays
