-- What a whole run leaves.
use Rattle.circle_run.proofs.Prelude.{◌≡◌, ◌≢◌, ℕ, suc, ◌-◌, ◌^◌, ◌<◌, ◌≤◌, ◌⊎◌, inl, inr, ⊎_elim, rules, min, refl, sym, subst, ap, ◌∙◌, arith, Bool, true}
use Rattle.circle_run.proofs.Prelude.{false, cond, List, [], ◌∷◌, ◌++◌, append-nil, map, length, get_or, Option, Some, None, Vec, IsSome, length-map}
use Rattle.circle_run.proofs.Prelude.{get_or-map, get_or_default, map-map, All-get_or, flat_map-map, sum-map, flat_map, range_with_len, sum_by, Event, Over}
use Rattle.circle_run.proofs.Prelude.{started, Strings, Shown, is_served, Told, place, DeedsKeepSound, LateKeepsSound, fresh_told, AgreesIfTold, NoneOnTheWay}
use Rattle.circle_run.proofs.Prelude.{SumShown, Log, Balanced, all_left, Move, RankSide, Stage, no_side, Plays, events_of_all, begun, NothingWaits}
use Rattle.circle_run.proofs.Prelude.{NothingWaitsAtEnd, all_logged, all_queued, all_mailed, handled_by, given_by, taken_by, PlaysTurns, moves_of_turns}
use Rattle.circle_run.proofs.Prelude.{RoundsAreFair, IsFair, counted, KeptOf, KeptAll, events_by, NoneLost, AreAll, Same, AllEnded, stage_of, Ran, KeptInOrder}
use Rattle.circle_run.proofs.Prelude.{Played, IsTraced, share_in, IsProgress, IsOutcome, Share, Finished, Options, Rank}
use Rattle.circle_run.specs.Hosts.{rank_of}
use Rattle.circle_run.specs.Private.Outcomes.{IsRun}
use Rattle.post_board.specs.Calls.{ByNumber as SeatsByNumber}
use Rattle.sum_tree.specs.Shown.{ByNumber as SumsByNumber}
use Rattle.circle_run.proofs.Runs.{moves_are_legal_run}
use Rattle.circle_run.proofs.Totals.{nothing_mailed, moves_are_balanced, given_is_taken_or_mailed}
use Rattle.circle_run.proofs.Logs.{logs_are_handled}
use Rattle.circle_run.proofs.Fairness.{turns_are_played}
use Rattle.circle_run.proofs.Prompt.{moves_answer_first}
use Rattle.circle_run.proofs.Sounding.{plays_sound, begun_sound}
use Rattle.circle_run.proofs.Counting.{capped, share_told, share_counts}
use Rattle.circle_run.proofs.Columns.{job_of, queue_of, share_of}
use Rattle.circle_run.proofs.Maps.{map_is, map_same, map_each, flat_first, sum_by-map, some_of, sum_same, capped_sum}
use Rattle.circle_run.proofs.Beginning.{Begins}
use Rattle.circle_run.proofs.Turning.{either}
use Rattle.circle_run.proofs.Leaving.{Gathered, HaveEnded, have_ended, none_left, within, left_by}

-- what is known of a run at its end, as a run of moves
record Ended (o : Options) (starts : Strings) (moves : List (ℕ × Move)) (last : Stage) : Type 0 where
  plays : Plays o moves (begun o starts) last
  ended : (r : ℕ) → r < o.ranks → (place last.told r).ended ≡ true
  nothing : NothingWaits last
  over : last.told.token ≡ Over
  fair : IsFair (started o.ranks (length starts)) (events_of_all moves)

abbrev given : Share → ℕ
given s = s.given

abbrev taken : Share → ℕ
taken s = s.taken

some_from : (a : Option ℕ) → a ≢ None → IsSome a
some_from None ne = absurd (ne refl)
some_from (Some x) ne = search rules

module _ {J S T P Q D : Type 0} (log : J → Log) (plain : J → D) (shows : S → Shown) (tells : P → Option Told) (seats : P → S → Type 0)
    (sums_shows : T → SumShown) (sums_seats : Q → T → Type 0) where
  abbrev logged : Rank J S T → Log
  logged r = log r.job

  -- a run of turns at its end
  at_end : (o : Options) (starts : Strings) (ranks : List (Rank J S T)) (p : P) (q : Q) (turns : List (List Move)) (told : Told)
      → NothingWaitsAtEnd → RoundsAreFair → DeedsKeepSound → LateKeepsSound → o.stop_after ≡ None
      → ((b : P) (s : S) → seats b s → AgreesIfTold (tells b) (shows s)) → 1 ≤ o.ranks → AreAll o ranks → HaveEnded ranks
      → AllEnded log shows seats sums_shows sums_seats ranks p q → tells p ≡ Some told → PlaysTurns o 0 turns (begun o starts) (stage_of log tells ranks told)
      → Ended o starts (moves_of_turns o.ranks 0 turns) (stage_of log tells ranks told)
  at_end o starts ranks p q turns told nothing fair sound late_sound endless agrees some all gone done after played =
      let last : Stage = stage_of log tells ranks told in
      let moves : List (ℕ × Move) = moves_of_turns o.ranks 0 turns in
      let plays : Plays o moves (begun o starts) last = turns_are_played o turns (begun o starts) last played in
      let d : Rank J S T = some_of ranks (omega (arith, all.count, some)) in
      let ended : (r : ℕ) → r < o.ranks → (place told r).ended ≡ true =
      λ r below. (let inside : r < length ranks = omega (arith, all.count, below) in
      let x = done r d inside in
      let knows = x.ready.knows in
      let a = subst (λ (u : Option Told). AgreesIfTold u (shows (get_or ranks r d).seat)) after (agrees p (get_or ranks r d).seat x.ready.mine) in
      ap (λ (k : ℕ). (place told k).ended) (sym (knows.number ∙ (all.each r d inside).0)) ∙ a.ended ∙ knows.ended ∙ gone r d inside) in
      record {
        plays = plays;
        ended = ended;
        nothing = nothing o starts moves last 0 endless plays (ended 0 (omega (arith, some)));
        over = (plays_sound sound late_sound o moves (begun o starts) last plays (begun_sound o.ranks some)).sane.over 0 (ended 0 (omega (arith, some)));
        fair = fair o starts turns last (omega (arith, some)) endless played;
      }

  -- the shares, rank by rank
  record Shared (o : Options) (moves : List (ℕ × Move)) (ranks : List (Rank J S T)) : Type 0 where
    each : (k : ℕ) (d : Rank J S T) → k < length ranks → (get_or ranks k d).book.share ≡ capped (handled_by k moves) (given_by k moves) (taken_by k moves)
    told : (k : ℕ) (d : Rank J S T) → k < length ranks → (get_or ranks k d).book.share ≡ share_in (events_of_all moves) k
    handled : (k : ℕ) (d : Rank J S T) → k < length ranks → handled_by k moves ≡ length (logged (get_or ranks k d))

  shared : (o : Options) (starts : Strings) (moves : List (ℕ × Move)) (ranks0 ranks : List (Rank J S T)) (told : Told) → length ranks ≡ length ranks0
      → ((k : ℕ) (d : Rank J S T) → k < length ranks0 → (get_or ranks0 k d).book.share ≡ capped 0 0 0)
      → ((k : ℕ) (d : Rank J S T) → k < length ranks0 → (get_or ranks k d).book.share ≡ counted (events_by k moves) (get_or ranks0 k d).book.share)
      → Plays o moves (begun o starts) (stage_of log tells ranks told) → Shared o moves ranks
  shared o starts moves ranks0 ranks told count none shares plays =
      let last : Stage = stage_of log tells ranks told in
      record {
        each = λ k d h. (let w : k < length ranks0 = omega (arith, count, h) in
            shares k d w ∙ share_counts o k moves (begun o starts) last (get_or ranks0 k d).book.share plays (none k d w));
        told = λ k d h. (let w : k < length ranks0 = omega (arith, count, h) in shares k d w ∙ share_told k moves (get_or ranks0 k d).book.share (none k d w));
        handled = λ k d h. ap length (sym (logs_are_handled o starts moves last plays k)
            ∙ ap (λ (x : RankSide). x.log) (get_or-map (rank_of log tells) ranks k d no_side h));
      }

  -- what the numbers of rank 0 are, whose final sum is this
  pub progressed : (o : Options) (ranks : List (Rank J S T)) (p : P) (q : Q) (total : ℕ) (numbers : List ℕ) → AreAll o ranks → 1 ≤ o.ranks
      → AllEnded log shows seats sums_shows sums_seats ranks p q → NoneLost ranks
      → ((d : Rank J S T) → (sums_shows (get_or ranks 0 d).sums_seat).answer ≡ Some total)
      → total ≡ sum_by (λ (r : Rank J S T). (sums_shows r.sums_seat).count) ranks
      → numbers ≡ flat_map (λ (r : Rank J S T). r.book.sums.items) ranks → IsProgress (map (λ (r : Rank J S T). length (logged r)) ranks) numbers
  progressed o [] p q total numbers all some done found answer sum_is are = absurd (omega (arith, all.count, some))
  progressed o (x ∷ ranks) p q total numbers all some done found answer sum_is are =
      let first = done 0 x (omega arith) in
      let sums = first.ready.sums in
      let own = sums.progress (found 0 x (omega arith)) in
      let kept : KeptAll x.book.sums.items total (sums_shows x.sums_seat) =
      subst (λ (a : Option ℕ). KeptOf a x.book.sums.items (sums_shows x.sums_seat)) (answer x) (own.first (all.each 0 x (omega arith)).0) in
      let rest : (k : ℕ) (d : Rank J S T) → k < length ranks → (get_or ranks k d).book.sums.items ≡ [] =
      λ k d h. (let y = done (suc k) d (omega arith) in let me = (all.each (suc k) d (omega arith)).0 in
      (y.ready.sums.progress (found (suc k) d (omega arith))).rest (λ e. (let f : 0 ≡ suc k = sym e ∙ me in absurd (omega arith)))) in
      let numbers_are : numbers ≡ x.book.sums.items = are ∙ flat_first (λ (r : Rank J S T). r.book.sums.items) x ranks rest in
      let n : (sums_shows x.sums_seat).n ≡ o.ranks = sums.ranks ∙ ap (λ (q : Options). q.ranks) (all.each 0 x (omega arith)).1 in
      let f : Rank J S T → ℕ = λ r. length (logged r) in
      record {
        front = kept.front;
        final = total;
        are = numbers_are ∙ kept.are;
        rises = kept.rises;
        within = kept.within;
        total = λ few. sum_is ∙ sum_same (λ (r : Rank J S T). (sums_shows r.sums_seat).count) f (x ∷ ranks)
            (λ k d h. (let y = done k d h in let c = y.ready.sums.counted (found k d h) in
            let below : f (get_or (x ∷ ranks) k d) < 2 ^ 56 =
            subst (λ (m : ℕ). m < 2 ^ 56) (get_or-map f (x ∷ ranks) k d 0 h)
            (All-get_or (λ (m : ℕ). m < 2 ^ 56) (map f (x ∷ ranks)) k 0 (let l = length-map (x ∷ ranks) f in omega (arith, l, h)) few) in
            omega (arith, c, below))) ∙ sym (sum-map f (x ∷ ranks));
        alone = λ one. (let a = kept.alone (n ∙ sym all.count ∙ sym (length-map (x ∷ ranks) f) ∙ one) in (a.1, a.2));
      }

  -- what is known of a run once its ranks were taken apart
  pub record Ending (o : Options) (starts : Strings) (jobs : List J) (ranks0 ranks : List (Rank J S T)) (p0 p : P) (q0 q : Q) (total : ℕ)
      (f : Finished J) : Type 0 where
    -- the laws of runs and of boards
    pub waits : NothingWaitsAtEnd
    pub fair : RoundsAreFair
    pub sound : DeedsKeepSound
    pub late_sound : LateKeepsSound
    pub agrees : (b : P) (s : S) → seats b s → AgreesIfTold (tells b) (shows s)
    -- how it began
    pub some : 1 ≤ o.ranks
    pub first : Begins log shows tells seats sums_shows sums_seats o starts ranks0 p0 q0
    pub unshared : (k : ℕ) (d : Rank J S T) → k < length ranks0 → (get_or ranks0 k d).book.share ≡ capped 0 0 0
    pub given_jobs : map (λ (r : Rank J S T). r.job) ranks0 ≡ jobs
    -- how it ended
    pub gathered : List S
    pub last : Gathered log shows seats sums_shows sums_seats o ranks p q gathered
    pub same : Same plain ranks0 ranks
    pub mailboxes : (t : Told) → tells p ≡ Some t → NoneOnTheWay t
    pub ran : Ran log tells (KeptInOrder o f.events.items) o (fresh_told o.ranks) ranks0 ranks p
    -- what was taken of the ranks
    pub jobs_are : f.jobs.items ≡ map (λ (r : Rank J S T). r.job) ranks
    pub left_are : map (λ (l : Vec (List ℕ) _). l.items) f.left.items ≡ map (λ (r : Rank J S T). r.queue) ranks
    pub shares_are : f.shares.items ≡ map (λ (r : Rank J S T). r.book.share) ranks
    pub sums_are : f.sums.items ≡ flat_map (λ (r : Rank J S T). r.book.sums.items) ranks
    pub answer : (d : Rank J S T) → (sums_shows (get_or ranks 0 d).sums_seat).answer ≡ Some total
    pub total_is : total ≡ sum_by (λ (r : Rank J S T). (sums_shows r.sums_seat).count) ranks

  -- the moves of a run, with the shares that they give
  record Course (o : Options) (starts : Strings) (ranks : List (Rank J S T)) (moves : List (ℕ × Move)) (told : Told) : Type 0 where
    plays : Plays o moves (begun o starts) (stage_of log tells ranks told)
    mailed : all_mailed (stage_of log tells ranks told) ≡ []
    shares : Shared o moves ranks

  course : (o : Options) (starts : Strings) (jobs : List J) (ranks0 ranks : List (Rank J S T)) (p0 p : P) (q0 q : Q) (total : ℕ) (f : Finished J)
      → (x : Ending o starts jobs ranks0 ranks p0 p q0 q total f) → Course o starts ranks (moves_of_turns o.ranks 0 x.ran.turns) x.ran.told
  course o starts jobs ranks0 ranks p0 p q0 q total f x =
      let last : Stage = stage_of log tells ranks x.ran.told in
      let moves : List (ℕ × Move) = moves_of_turns o.ranks 0 x.ran.turns in
      let played : PlaysTurns o 0 x.ran.turns (begun o starts) last =
      subst (λ (s : Stage). PlaysTurns o 0 x.ran.turns s last) x.first.begun_is x.ran.plays in
      let plays : Plays o moves (begun o starts) last = turns_are_played o x.ran.turns (begun o starts) last played in
      record {
        plays = plays;
        mailed = nothing_mailed last (x.mailboxes x.ran.told x.ran.after);
        shares = shared o starts moves ranks0 ranks x.ran.told x.same.count x.unshared x.ran.shares plays;
      }

  -- what is left at the ranks
  queues_left : (o : Options) (starts : Strings) (jobs : List J) (ranks0 ranks : List (Rank J S T)) (p0 p : P) (q0 q : Q) (total : ℕ) (f : Finished J)
      → Ending o starts jobs ranks0 ranks p0 p q0 q total f → all_left f.left.items ≡ flat_map queue_of ranks
  queues_left o starts jobs ranks0 ranks p0 p q0 q total f x =
      let as_list : Strings → Strings = λ xs. xs in
      sym (flat_map-map as_list (λ (l : Vec (List ℕ) _). l.items) f.left.items) ∙ ap (flat_map as_list) x.left_are ∙ flat_map-map as_list queue_of ranks

  -- what goes in comes out
  balance_of : (o : Options) (starts : Strings) (jobs : List J) (ranks0 ranks : List (Rank J S T)) (p0 p : P) (q0 q : Q) (total : ℕ) (f : Finished J)
      → Ending o starts jobs ranks0 ranks p0 p q0 q total f → Balanced (flat_map log f.jobs.items) (all_left f.left.items) starts
  balance_of o starts jobs ranks0 ranks p0 p q0 q total f x =
      let last : Stage = stage_of log tells ranks x.ran.told in
      let moves : List (ℕ × Move) = moves_of_turns o.ranks 0 x.ran.turns in
      let c : Course o starts ranks moves x.ran.told = course o starts jobs ranks0 ranks p0 p q0 q total f x in
      let logs_of : RankSide → Log = λ r. r.log in
      let strings_of : RankSide → Strings = λ r. r.queue in
      let side_of : Rank J S T → RankSide = rank_of log tells in
      let all_logs : all_logged last ≡ flat_map log f.jobs.items =
      flat_map-map logs_of side_of ranks ∙ sym (flat_map-map log job_of ranks) ∙ ap (flat_map log) (sym x.jobs_are) in
      let left : all_queued last ++ all_mailed last ≡ all_left f.left.items =
      ap (λ (xs : Strings). all_queued last ++ xs) c.mailed ∙ append-nil (all_queued last)
      ∙ flat_map-map strings_of side_of ranks ∙ sym (queues_left o starts jobs ranks0 ranks p0 p q0 q total f x) in
      subst (λ (l : Log). Balanced l (all_left f.left.items) starts) all_logs
      (subst (λ (l : Strings). Balanced (all_logged last) l starts) left
      (moves_are_balanced o starts moves last (let n = x.some in omega arith) c.plays))

  -- what was given was taken
  moved_of : (o : Options) (starts : Strings) (ranks : List (Rank J S T)) (moves : List (ℕ × Move)) (told : Told) (shares : List Share)
      → Course o starts ranks moves told
      → shares ≡ map (λ (k : ℕ). capped (handled_by k moves) (given_by k moves) (taken_by k moves)) (range_with_len 0 o.ranks)
      → min (sum_by given shares) (2 ^ 128 - 1) ≡ min (sum_by taken shares) (2 ^ 128 - 1)
  moved_of o starts ranks moves told shares c caps =
      let cap : ℕ → Share = λ k. capped (handled_by k moves) (given_by k moves) (taken_by k moves) in
      let g = capped_sum (λ (k : ℕ). given_by k moves) (2 ^ 128 - 1) (range_with_len 0 o.ranks) in
      let t = capped_sum (λ (k : ℕ). taken_by k moves) (2 ^ 128 - 1) (range_with_len 0 o.ranks) in
      let gives = sum_by-map given cap (range_with_len 0 o.ranks) in
      let takes = sum_by-map taken cap (range_with_len 0 o.ranks) in
      let mailed : length (all_mailed (stage_of log tells ranks told)) ≡ 0 = ap length c.mailed in
      let even = (given_is_taken_or_mailed o starts moves (stage_of log tells ranks told) c.plays).counts in
      let level : sum_by (λ (k : ℕ). given_by k moves) (range_with_len 0 o.ranks) ≡ sum_by (λ (k : ℕ). taken_by k moves) (range_with_len 0 o.ranks) =
      omega (arith, even, mailed) in
      ap (λ (xs : List Share). min (sum_by given xs) (2 ^ 128 - 1)) caps ∙ ap (λ (n : ℕ). min n (2 ^ 128 - 1)) gives ∙ g
      ∙ ap (λ (n : ℕ). min n (2 ^ 128 - 1)) level
      ∙ sym (ap (λ (xs : List Share). min (sum_by taken xs) (2 ^ 128 - 1)) caps ∙ ap (λ (n : ℕ). min n (2 ^ 128 - 1)) takes ∙ t)

  -- with a trace the events are those of the moves
  events_kept : (o : Options) (ranks0 ranks : List (Rank J S T)) (p : P) (events : List Event) (t : Told)
      → (ran : Ran log tells (KeptInOrder o events) o t ranks0 ranks p) → (b : Bool) → o.trace ≡ b
      → events ≡ cond b (events_of_all (moves_of_turns o.ranks 0 ran.turns)) []
  events_kept o ranks0 ranks p events t ran b is = ran.kept ∙ ap (λ (y : Bool). cond y (events_of_all (moves_of_turns o.ranks 0 ran.turns)) []) is

  outcome : (o : Options) (starts : Strings) (jobs : List J) (ranks0 ranks : List (Rank J S T)) (p0 p : P) (q0 q : Q) (total : ℕ) (f : Finished J)
      → Ending o starts jobs ranks0 ranks p0 p q0 q total f → IsOutcome log plain o starts jobs f
  outcome o starts jobs ranks0 ranks p0 p q0 q total f x =
      let moves : List (ℕ × Move) = moves_of_turns o.ranks 0 x.ran.turns in
      let c : Course o starts ranks moves x.ran.told = course o starts jobs ranks0 ranks p0 p q0 q total f x in
      let s : Shared o moves ranks = c.shares in
      let cap : ℕ → Share = λ k. capped (handled_by k moves) (given_by k moves) (taken_by k moves) in
      let queued : all_left f.left.items ≡ flat_map queue_of ranks = queues_left o starts jobs ranks0 ranks p0 p q0 q total f x in
      let many : J → ℕ = λ j. length (log j) in
      let most : J → ℕ = λ j. min (many j) (2 ^ 64 - 1) in
      let facts_of : Rank J S T → D = λ r. plain r.job in
      record {
        balance = balance_of o starts jobs ranks0 ranks p0 p q0 q total f x;
        whole = none_left log shows seats sums_shows sums_seats o ranks p q x.gathered (all_left f.left.items) x.last queued;
        stop = within log shows seats sums_shows sums_seats o ranks p q x.gathered f.jobs.items x.last x.jobs_are;
        left = left_by log shows seats sums_shows sums_seats o ranks p q x.gathered f.jobs.items (all_left f.left.items) x.last x.jobs_are queued;
        jobs_count = ap length x.jobs_are ∙ length-map ranks job_of ∙ x.same.count ∙ sym (length-map ranks0 job_of) ∙ ap length x.given_jobs;
        facts = ap (map plain) x.jobs_are ∙ map-map plain job_of ranks
            ∙ map_same facts_of facts_of ranks ranks0 x.same.count
            (λ k d d' h. ap facts_of (get_or_default ranks k d d' h) ∙ x.same.facts k d' (let c = x.same.count in omega arith))
            ∙ sym (map-map plain job_of ranks0) ∙ ap (map plain) x.given_jobs;
        lists = sym (length-map f.left.items (λ (l : Vec (List ℕ) _). l.items)) ∙ ap length x.left_are ∙ length-map ranks queue_of ∙ x.same.count
            ∙ sym (length-map ranks0 job_of) ∙ ap length x.given_jobs;
        handled = ap (map (λ (y : Share). y.handled)) x.shares_are ∙ map-map (λ (y : Share). y.handled) share_of ranks
            ∙ map_same (λ (r : Rank J S T). r.book.share.handled) (λ (r : Rank J S T). most r.job) ranks ranks refl
            (λ k d d' h. ap (λ (y : Share). y.handled) (s.each k d h) ∙ ap (λ (n : ℕ). min n (2 ^ 64 - 1)) (s.handled k d h)
            ∙ ap (λ (r : Rank J S T). most r.job) (get_or_default ranks k d d' h))
            ∙ sym (map-map most job_of ranks) ∙ ap (map most) (sym x.jobs_are);
        moved = moved_of o starts ranks moves x.ran.told f.shares.items c (x.shares_are ∙ map_is share_of cap ranks o.ranks x.last.all.count s.each);
        untraced = λ off. events_kept o ranks0 ranks p f.events.items (fresh_told o.ranks) x.ran false off;
        progress = subst (λ (ns : List ℕ). IsProgress ns f.sums.items) (sym (ap (map many) x.jobs_are ∙ map-map many job_of ranks))
            (progressed o ranks p q total f.sums.items x.last.all x.some x.last.done x.last.found x.answer x.total_is x.sums_are);
      }

  abbrev left_of : Finished J → List Strings
  left_of f = map (λ (l : Vec (List ℕ) _). l.items) f.left.items

  -- what each rank has left and did
  played : (o : Options) (starts : Strings) (jobs : List J) (ranks0 ranks : List (Rank J S T)) (p0 p : P) (q0 q : Q) (total : ℕ) (f : Finished J)
      → Ending o starts jobs ranks0 ranks p0 p q0 q total f → Played o starts (map log f.jobs.items) (left_of f) f.shares.items
  played o starts jobs ranks0 ranks p0 p q0 q total f x =
      let moves : List (ℕ × Move) = moves_of_turns o.ranks 0 x.ran.turns in
      let last : Stage = stage_of log tells ranks x.ran.told in
      let c : Course o starts ranks moves x.ran.told = course o starts jobs ranks0 ranks p0 p q0 q total f x in
      let logs_of : RankSide → Log = λ r. r.log in
      let strings_of : RankSide → Strings = λ r. r.queue in
      let side_of : Rank J S T → RankSide = rank_of log tells in
      record {
        moves = moves;
        last = last;
        plays = c.plays;
        mailboxes = x.mailboxes x.ran.told x.ran.after;
        logs_are = ap (map log) x.jobs_are ∙ map-map log job_of ranks ∙ sym (map-map logs_of side_of ranks);
        left_are = x.left_are ∙ sym (map-map strings_of side_of ranks);
        counts = x.shares_are ∙ map_is share_of (share_in (events_of_all moves)) ranks o.ranks x.last.all.count c.shares.told;
      }

  -- a run that stops after no number, as its events tell it
  run : (o : Options) (starts : Strings) (jobs : List J) (ranks0 ranks : List (Rank J S T)) (p0 p : P) (q0 q : Q) (total : ℕ) (f : Finished J)
      → Ending o starts jobs ranks0 ranks p0 p q0 q total f → o.stop_after ≡ None → IsRun log o starts f
  run o starts jobs ranks0 ranks p0 p q0 q total f x endless =
      let moves : List (ℕ × Move) = moves_of_turns o.ranks 0 x.ran.turns in
      let last : Stage = stage_of log tells ranks x.ran.told in
      let c : Course o starts ranks moves x.ran.told = course o starts jobs ranks0 ranks p0 p q0 q total f x in
      let played : PlaysTurns o 0 x.ran.turns (begun o starts) last =
      subst (λ (s : Stage). PlaysTurns o 0 x.ran.turns s last) x.first.begun_is x.ran.plays in
      let gone : HaveEnded ranks = have_ended log shows seats sums_shows sums_seats o ranks p q x.gathered x.last endless in
      let e : Ended o starts moves last =
      at_end o starts ranks p q x.ran.turns x.ran.told x.waits x.fair x.sound x.late_sound endless x.agrees x.some x.last.all gone x.last.done
      x.ran.after played in
      let logs_of : RankSide → Log = λ r. r.log in
      let side_of : Rank J S T → RankSide = rank_of log tells in
      let logs : map log f.jobs.items ≡ map logs_of last.ranks =
      ap (map log) x.jobs_are ∙ map-map log job_of ranks ∙ sym (map-map logs_of side_of ranks) in
      let traced : IsTraced o starts (map log f.jobs.items) (events_of_all moves) = record {
        moves = moves;
        last = last;
        plays = e.plays;
        are = refl;
        legal = moves_are_legal_run o starts moves last endless e.plays;
        over = e.over;
        ended = e.ended;
        logs_are = logs;
        answers = moves_answer_first o starts moves last endless e.plays;
        fair = e.fair;
      } in
      let counts : f.shares.items ≡ map (share_in (events_of_all moves)) (range_with_len 0 o.ranks) =
      x.shares_are ∙ map_is share_of (share_in (events_of_all moves)) ranks o.ranks x.last.all.count c.shares.told in
      let kept : o.trace ≡ true → f.events.items ≡ events_of_all moves =
      λ on. events_kept o ranks0 ranks p f.events.items (fresh_told o.ranks) x.ran true on in
      record {
        traced = λ on. subst (IsTraced o starts (map log f.jobs.items)) (sym (kept on)) traced;
        counts = λ on. counts ∙ ap (λ (es : List Event). map (share_in es) (range_with_len 0 o.ranks)) (sym (kept on));
        ran = record { events = events_of_all moves; traced = traced; counts = counts; kept = x.ran.kept };
      }

  pub closed : (o : Options) (starts : Strings) (jobs : List J) (ranks0 ranks : List (Rank J S T)) (p0 p : P) (q0 q : Q) (total : ℕ) (f : Finished J)
      → Ending o starts jobs ranks0 ranks p0 p q0 q total f
      → IsOutcome log plain o starts jobs f × (o.stop_after ≡ None → IsRun log o starts f) × Played o starts (map log f.jobs.items) (left_of f) f.shares.items
  closed o starts jobs ranks0 ranks p0 p q0 q total f x = (
    outcome o starts jobs ranks0 ranks p0 p q0 q total f x,
    run o starts jobs ranks0 ranks p0 p q0 q total f x,
    played o starts jobs ranks0 ranks p0 p q0 q total f x,
  )

  -- the seats may be gathered: here they stand by their numbers
  pub seats_done : (o : Options) (ranks : List (Rank J S T)) (p : P) (q : Q) (all_seats : List S) → AreAll o ranks
      → AllEnded log shows seats sums_shows sums_seats ranks p q → all_seats ≡ map (λ (r : Rank J S T). r.seat) ranks
      → SeatsByNumber shows (seats p) all_seats
  seats_done o ranks p q all_seats all done are =
      let long : o.ranks ≡ length all_seats = sym (ap length are ∙ length-map ranks (λ (r : Rank J S T). r.seat) ∙ all.count) in
      map_each (λ (k : ℕ) (x : S). seats p x × ((shows x).number ≡ k) × ((shows x).n ≡ length all_seats)
      × (((shows x).ended ≡ true) ⊎ ((shows x).stopped ≡ true)) × ((i : ℕ) → is_served (shows x) i ≡ false))
      (λ (r : Rank J S T). r.seat) ranks all_seats are
      (λ k d h.
      let x = done k d h in
      let knows = x.ready.knows in
      let me = all.each k d h in (
        x.ready.mine,
        knows.number ∙ me.0,
        knows.ranks ∙ ap (λ (q : Options). q.ranks) me.1 ∙ long,
        ⊎_elim (λ e. inl (knows.ended ∙ e)) (λ s. inr (knows.stopped ∙ s)) (either (get_or ranks k d).ended (get_or ranks k d).stopped (x.over refl).0),
        x.ready.none,
      ))

  pub sums_done : (o : Options) (ranks : List (Rank J S T)) (p : P) (q : Q) (all_sums : List T) → AreAll o ranks
      → AllEnded log shows seats sums_shows sums_seats ranks p q → all_sums ≡ map (λ (r : Rank J S T). r.sums_seat) ranks
      → SumsByNumber sums_shows (sums_seats q) all_sums
  sums_done o ranks p q all_sums all done are =
      let long : o.ranks ≡ length all_sums = sym (ap length are ∙ length-map ranks (λ (r : Rank J S T). r.sums_seat) ∙ all.count) in
      map_each (λ (k : ℕ) (x : T). sums_seats q x × ((sums_shows x).number ≡ k) × ((sums_shows x).n ≡ length all_sums) × IsSome (sums_shows x).answer)
      (λ (r : Rank J S T). r.sums_seat) ranks all_sums are
      (λ k d h.
      let x = done k d h in
      let sums = x.ready.sums in
      let me = all.each k d h in (
        sums.mine,
        sums.number ∙ me.0,
        sums.ranks ∙ ap (λ (q : Options). q.ranks) me.1 ∙ long,
        some_from (sums_shows (get_or ranks k d).sums_seat).answer (x.over refl).1,
      ))
