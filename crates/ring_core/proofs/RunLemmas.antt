-- Runs: the token invariant holds at the start and after each run, and where it tells the end, nothing is queued and nothing is on the way.
use Rattle.ring_core.proofs.Prelude.{◌≡◌, ℕ, zero, suc, ◌+◌, ◌-◌, ◌<◌, inl, inr, refl, sym, subst, ap, ◌∙◌, arith, take, IsTrue, true, List, [], ◌∷◌, ◌++◌}
use Rattle.ring_core.proofs.Prelude.{length, map, set, get_or, get_or-set_same, get_or-set_other, length-set, sum_by, None, dite, ℕ_discrete, range_with_len}
use Rattle.ring_core.proofs.Prelude.{nat_tests, take_more, sum_by-cons, Desk, Rest, Asked, Full, Empty, Token, At, Over, RankState, Event, Handle, Ask, Give}
use Rattle.ring_core.proofs.Prelude.{Refuse, Take, TakeNone, Pass, Restart, Conclude, SeeOver, Seen, fresh, rank_of, is_over, dealt, started, held, queued_in}
use Rattle.ring_core.proofs.Prelude.{on_way_in, is_busy, is_at, after_giving, refusal, ranks_after, token_after, refused, after, is_filled, mailbox_of}
use Rattle.ring_core.proofs.Prelude.{picture_of, IsQuiet, WorldInvariant, after_all, IsRun, HoldsSome, NoEmptyBatch}
use Rattle.ring_core.proofs.WorldLemmas.{handle_says, ask_says, give_says, refuse_says, take_says, take_none_says, pass_says, restart_says}
use Rattle.ring_core.proofs.WorldLemmas.{conclude_says, see_over_says, over_is, event_keeps_world_invariant}

-- the token lies black
pub WorldInvariant-started : (n starts : ℕ) → WorldInvariant (started n starts)
WorldInvariant-started n starts = inr (inr refl)

pub WorldInvariant-after_all : (events : List Event) (world : Seen) → IsRun world events → WorldInvariant world → WorldInvariant (after_all world events)
WorldInvariant-after_all [] world run holds = holds
WorldInvariant-after_all (event ∷ events) world (legal, run) holds =
    WorldInvariant-after_all events (after world event) run (event_keeps_world_invariant world.0 world.1 event legal holds)

IsRun-push : (events : List Event) (world : Seen) (event : Event) → IsRun world events → refused (after_all world events) event ≡ None
    → IsRun world (events ++ event ∷ [])
IsRun-push [] world event run legal = (legal, tt)
IsRun-push (first ∷ events) world event (fine, run) legal = (fine, IsRun-push events (after world first) event run legal)

after_all-push : (events : List Event) (world : Seen) (event : Event) → after_all world (events ++ event ∷ []) ≡ after (after_all world events) event
after_all-push [] world event = refl
after_all-push (first ∷ events) world event = after_all-push events (after world first) event

-- one event more
pub IsRun-take_more : (events : List Event) (world : Seen) (at : ℕ) (event : Event) → at < length events → event ≡ get_or events at event
    → IsRun world (take at events) → refused (after_all world (take at events)) event ≡ None → IsRun world (take (at + 1) events)
IsRun-take_more events world at event inside here run legal =
    subst (IsRun world) (sym (take_more events at event inside ∙ ap (λ e. take at events ++ e ∷ []) (sym here)))
    (IsRun-push (take at events) world event run legal)

pub after_all-take_more : (events : List Event) (world : Seen) (at : ℕ) (event : Event) → at < length events → event ≡ get_or events at event
    → after_all world (take (at + 1) events) ≡ after (after_all world (take at events)) event
after_all-take_more events world at event inside here =
    ap (after_all world) (take_more events at event inside ∙ ap (λ e. take at events ++ e ∷ []) (sym here)) ∙ after_all-push (take at events) world event

no_batch_at_start : (deal : ℕ → ℕ) (a n r : ℕ) → HoldsSome (rank_of (map (λ r. fresh (deal r)) (range_with_len a n)) r).desk
no_batch_at_start deal a zero r = tt
no_batch_at_start deal a (suc n) zero = tt
no_batch_at_start deal a (suc n) (suc r) = no_batch_at_start deal (a + 1) n r

pub NoEmptyBatch-started : (n starts : ℕ) → NoEmptyBatch (started n starts).0
NoEmptyBatch-started n starts = no_batch_at_start (dealt n starts) 0 n

NoEmptyBatch-set : (ranks : List RankState) (r : ℕ) (x : RankState) → r < length ranks → HoldsSome x.desk → NoEmptyBatch ranks → NoEmptyBatch (set ranks r x)
NoEmptyBatch-set ranks r x inside some others k = dite (ℕ_discrete k r)
    (λ e. subst (λ (j : ℕ). HoldsSome (rank_of (set ranks r x) j).desk) (sym e)
    (subst (λ (y : RankState). HoldsSome y.desk) (sym (get_or-set_same ranks r x (fresh 0) inside)) some))
    (λ ne. subst (λ (y : RankState). HoldsSome y.desk) (sym (get_or-set_other ranks r k x (fresh 0) ne)) (others k))

pub NoEmptyBatch-ranks_after : (ranks : List RankState) (token : Token) (event : Event) → refusal ranks token event ≡ None
    → NoEmptyBatch ranks → NoEmptyBatch (ranks_after ranks event)
NoEmptyBatch-ranks_after ranks token (Handle rank path kids) legal some =
    NoEmptyBatch-set ranks rank _ (handle_says ranks token rank path kids legal).0 (some rank) some
NoEmptyBatch-ranks_after ranks token (Ask rank victim) legal some = NoEmptyBatch-set ranks rank _ (ask_says ranks token rank victim legal).0 tt some
NoEmptyBatch-ranks_after ranks token (Give rank to count) legal some =
    let s = give_says ranks token rank to count legal in
    let x : RankState = record (after_giving (rank_of ranks rank) rank to) { queued = (rank_of ranks rank).queued - count } in
    NoEmptyBatch-set (set ranks rank x) to _ (let h = s.1 in simp length-set (omega arith)) s.6 (NoEmptyBatch-set ranks rank x s.0 (some rank) some)
NoEmptyBatch-ranks_after ranks token (Refuse rank to) legal some = NoEmptyBatch-set ranks to _ (refuse_says ranks token rank to legal).1 tt some
NoEmptyBatch-ranks_after ranks token (Take rank from count) legal some = NoEmptyBatch-set ranks rank _ (take_says ranks token rank from count legal).0 tt some
NoEmptyBatch-ranks_after ranks token (TakeNone rank from) legal some = NoEmptyBatch-set ranks rank _ (take_none_says ranks token rank from legal).0 tt some
NoEmptyBatch-ranks_after ranks token (Pass rank colour) legal some =
    NoEmptyBatch-set ranks rank _ (pass_says ranks token rank colour legal).0.0 (some rank) some
NoEmptyBatch-ranks_after ranks token (Restart rank) legal some = NoEmptyBatch-set ranks rank _ (restart_says ranks token rank legal).0.0 (some rank) some
NoEmptyBatch-ranks_after ranks token (Conclude rank) legal some = NoEmptyBatch-set ranks rank _ (conclude_says ranks token rank legal).0.0 (some rank) some
NoEmptyBatch-ranks_after ranks token (SeeOver rank) legal some = NoEmptyBatch-set ranks rank _ (see_over_says ranks token rank legal).0 (some rank) some

-- a rank has ended only where the token says that all is over
abbrev pub EndsOnlyOver : List RankState → Token → Type 0
EndsOnlyOver ranks token = (r : ℕ) → IsTrue (rank_of ranks r).ended → token ≡ Over

nobody_ended : (deal : ℕ → ℕ) (a n r : ℕ) → ¬ IsTrue (rank_of (map (λ r. fresh (deal r)) (range_with_len a n)) r).ended
nobody_ended deal a zero r ended = cc
nobody_ended deal a (suc n) zero ended = cc
nobody_ended deal a (suc n) (suc r) ended = nobody_ended deal (a + 1) n r ended

pub EndsOnlyOver-started : (n starts : ℕ) → EndsOnlyOver (started n starts).0 (started n starts).1
EndsOnlyOver-started n starts r ended = absurd (nobody_ended (dealt n starts) 0 n r ended)

-- who has ended after a change of one rank that has not ended by it had ended before
ended_before : (ranks : List RankState) (r : ℕ) (x : RankState) → r < length ranks → x.ended ≡ (rank_of ranks r).ended → (k : ℕ)
    → IsTrue (rank_of (set ranks r x) k).ended → IsTrue (rank_of ranks k).ended
ended_before ranks r x inside same k ended = dite (ℕ_discrete k r)
    (λ e. subst (λ (j : ℕ). IsTrue (rank_of ranks j).ended) (sym e)
    (sym same ∙ ap (λ (y : RankState). y.ended) (sym (get_or-set_same ranks r x (fresh 0) inside))
    ∙ subst (λ (j : ℕ). IsTrue (rank_of (set ranks r x) j).ended) e ended))
    (λ ne. ap (λ (y : RankState). y.ended) (sym (get_or-set_other ranks r k x (fresh 0) ne)) ∙ ended)

-- the token lies at a rank, so nobody has ended
still_running : {A : Type 0} (ranks : List RankState) (token : Token) (rank k : ℕ) → is_at token rank ≡ true → EndsOnlyOver ranks token
    → IsTrue (rank_of ranks k).ended → A
still_running ranks (At place colour) rank k here only ended = let e = only k ended in cc
still_running ranks Over rank k here only ended = cc

pub EndsOnlyOver-event : (ranks : List RankState) (token : Token) (event : Event) → refusal ranks token event ≡ None
    → EndsOnlyOver ranks token → EndsOnlyOver (ranks_after ranks event) (token_after ranks token event)
EndsOnlyOver-event ranks token (Handle rank path kids) legal only k ended =
    only k (ended_before ranks rank _ (handle_says ranks token rank path kids legal).0 refl k ended)
EndsOnlyOver-event ranks token (Ask rank victim) legal only k ended = only k (ended_before ranks rank _ (ask_says ranks token rank victim legal).0 refl k ended)
EndsOnlyOver-event ranks token (Give rank to count) legal only k ended =
    let s = give_says ranks token rank to count legal in
    let x : RankState = record (after_giving (rank_of ranks rank) rank to) { queued = (rank_of ranks rank).queued - count } in
    let asker : (rank_of ranks to).ended ≡ (rank_of (set ranks rank x) to).ended =
    ap (λ (y : RankState). y.ended) (sym (get_or-set_other ranks rank to x (fresh 0) (λ e. s.2 (sym e)))) in
    only k (ended_before ranks rank x s.0 refl k (ended_before (set ranks rank x) to _ (let h = s.1 in simp length-set (omega arith)) asker k ended))
EndsOnlyOver-event ranks token (Refuse rank to) legal only k ended = only k (ended_before ranks to _ (refuse_says ranks token rank to legal).1 refl k ended)
EndsOnlyOver-event ranks token (Take rank from count) legal only k ended =
    only k (ended_before ranks rank _ (take_says ranks token rank from count legal).0 refl k ended)
EndsOnlyOver-event ranks token (TakeNone rank from) legal only k ended =
    only k (ended_before ranks rank _ (take_none_says ranks token rank from legal).0 refl k ended)
EndsOnlyOver-event ranks token (Pass rank colour) legal only k ended =
    let s = (pass_says ranks token rank colour legal).0 in still_running ranks token rank k s.4 only (ended_before ranks rank _ s.0 refl k ended)
EndsOnlyOver-event ranks token (Restart rank) legal only k ended =
    let s = (restart_says ranks token rank legal).0 in still_running ranks token rank k s.4 only (ended_before ranks rank _ s.0 refl k ended)
EndsOnlyOver-event ranks token (Conclude rank) legal only k ended = refl
EndsOnlyOver-event ranks token (SeeOver rank) legal only k ended = over_is token (see_over_says ranks token rank legal).2

pub EndsOnlyOver-after_all : (events : List Event) (world : Seen) → IsRun world events → EndsOnlyOver world.0 world.1
    → EndsOnlyOver (after_all world events).0 (after_all world events).1
EndsOnlyOver-after_all [] world run only = only
EndsOnlyOver-after_all (event ∷ events) world (legal, run) only =
    EndsOnlyOver-after_all events (after world event) run (EndsOnlyOver-event world.0 world.1 event legal only)

zero_sum : (f : RankState → ℕ) (ranks : List RankState) → ((r : ℕ) → r < length ranks → f (rank_of ranks r) ≡ 0) → sum_by f ranks ≡ 0
zero_sum f [] none = refl
zero_sum f (x ∷ ranks) none =
    let rest : sum_by f ranks ≡ 0 = zero_sum f ranks (λ r below. none (suc r) (omega arith)) in
    let first : f x ≡ 0 = none zero (omega arith) in
    sum_by-cons f x ranks ∙ omega arith

not_busy : (x : RankState) → ¬ (is_busy x ≡ true) → x.queued ≡ 0
not_busy x h = dite (ℕ_discrete x.queued 0) (λ e. e) (λ ne. absurd (h (grind (arith, nat_tests))))

holds_nothing : (d : Desk) → ¬ (is_filled (mailbox_of d) ≡ true) → held d ≡ 0
holds_nothing (Full i k) h = absurd (h refl)
holds_nothing _ h = refl

pub queued_in-quiet : (ranks : List RankState) → IsQuiet (length ranks) (picture_of ranks) → queued_in ranks ≡ 0
queued_in-quiet ranks quiet = zero_sum (λ r. r.queued) ranks (λ r below. not_busy (rank_of ranks r) (λ busy. quiet r (below, inl busy)))

pub on_way_in-quiet : (ranks : List RankState) → IsQuiet (length ranks) (picture_of ranks) → on_way_in ranks ≡ 0
on_way_in-quiet ranks quiet = zero_sum (λ r. held r.desk) ranks (λ r below. holds_nothing (rank_of ranks r).desk (λ full. quiet r (below, inr full)))

-- where all is over, nothing is queued and nothing is on the way
pub nothing_left : (world : Seen) → WorldInvariant world → IsTrue (is_over world.1) → (queued_in world.0 ≡ 0) × (on_way_in world.0 ≡ 0)
nothing_left (ranks, At place colour) holds over = cc
nothing_left (ranks, Over) quiet over = (queued_in-quiet ranks quiet, on_way_in-quiet ranks quiet)

pub no_rank_ends_early : (n starts : ℕ) (events : List Event) (r : ℕ) → IsRun (started n starts) events
    → IsTrue (rank_of (after_all (started n starts) events).0 r).ended
    → (queued_in (after_all (started n starts) events).0 ≡ 0) × (on_way_in (after_all (started n starts) events).0 ≡ 0)
no_rank_ends_early n starts events r run ended =
    let start : Seen = started n starts in
    let over : (after_all start events).1 ≡ Over = EndsOnlyOver-after_all events start run (EndsOnlyOver-started n starts) r ended in
    nothing_left (after_all start events) (WorldInvariant-after_all events start run (WorldInvariant-started n starts)) (ap is_over over)
