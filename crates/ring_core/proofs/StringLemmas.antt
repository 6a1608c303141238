-- No string is lost and none comes twice: what waits, what is on the way and what was handled are what was dealt and what was pushed.
use Rattle.ring_core.proofs.Prelude.{◌≡◌, ℕ, zero, suc, ◌+◌, ◌-◌, ◌%◌, ◌<◌, ◌≤◌, refl, sym, ap, ◌∙◌, arith, true, cond, nat_lt, ◌==◌, List, [], ◌∷◌, length}
use Rattle.ring_core.proofs.Prelude.{map, set, get_or-set_other, length-set, sum_by, count_by, None, dite, ℕ_discrete, range_with_len, mod-lt, nat_tests}
use Rattle.ring_core.proofs.Prelude.{sum_by-cons, sum_by-set, Desk, Rest, Asked, Full, Empty, Token, RankState, Event, Handle, Ask, Give, Refuse, Take}
use Rattle.ring_core.proofs.Prelude.{TakeNone, Pass, Restart, Conclude, SeeOver, Seen, fresh, rank_of, dealt, started, held, queued_in, on_way_in, is_rest}
use Rattle.ring_core.proofs.Prelude.{asks, holds, is_refused_by, after_giving, refusal, ranks_after, after, after_all, IsRun, is_handle, pushed}
use Rattle.ring_core.proofs.WorldLemmas.{handle_says, ask_says, give_says, refuse_says, take_says, take_none_says, pass_says, restart_says}
use Rattle.ring_core.proofs.WorldLemmas.{conclude_says, see_over_says}
use Rattle.ring_core.proofs.Dealing.{dealt_more}

-- all strings of the world
abbrev pub strings : List RankState → ℕ
strings ranks = queued_in ranks + on_way_in ranks

both : (q q' w w' a a' b b' less more : ℕ) → q' + a ≡ q + a' → w' + b ≡ w + b' → (a' + b') + less ≡ (a + b) + more → (q' + w') + less ≡ (q + w) + more
both q q' w w' a a' b b' less more one two three = omega arith

-- the world has as many strings more, or less, as the rank that changed
strings-set : (ranks : List RankState) (r : ℕ) (x : RankState) (less more : ℕ) → r < length ranks
    → (x.queued + held x.desk) + less ≡ ((rank_of ranks r).queued + held (rank_of ranks r).desk) + more → strings (set ranks r x) + less ≡ strings ranks + more
strings-set ranks r x less more inside change =
    both (queued_in ranks) (queued_in (set ranks r x)) (on_way_in ranks) (on_way_in (set ranks r x)) (rank_of ranks r).queued x.queued
    (held (rank_of ranks r).desk) (held x.desk) less more
    (sum_by-set (λ (y : RankState). y.queued) ranks r x (fresh 0) inside)
    (sum_by-set (λ (y : RankState). held y.desk) ranks r x (fresh 0) inside)
    change

held_at_rest : (d : Desk) → is_rest d ≡ true → held d ≡ 0
held_at_rest (Full i k) e = cc
held_at_rest _ e = refl

held_asked : (d : Desk) (r : ℕ) → asks d r ≡ true → held d ≡ 0
held_asked (Full i k) r e = cc
held_asked _ r e = refl

held_refused : (d : Desk) (r : ℕ) → is_refused_by d r ≡ true → held d ≡ 0
held_refused (Full i k) r e = cc
held_refused _ r e = refl

held_full : (d : Desk) (r k : ℕ) → holds d r k ≡ true → held d ≡ k
held_full (Full i j) r k e = grind (arith, nat_tests)
held_full _ r k e = cc

one_less : (q d kids : ℕ) → nat_lt 0 q ≡ true → ((q - 1 + kids) + d) + 1 ≡ (q + d) + kids
one_less q d kids busy = grind (arith, nat_tests)

pub strings-event : (ranks : List RankState) (token : Token) (event : Event) → refusal ranks token event ≡ None
    → strings (ranks_after ranks event) + cond (is_handle event) 1 0 ≡ strings ranks + pushed event
strings-event ranks token (Handle rank path kids) legal =
    let s = handle_says ranks token rank path kids legal in
    strings-set ranks rank _ 1 kids s.0 (one_less (rank_of ranks rank).queued (held (rank_of ranks rank).desk) kids s.2)
strings-event ranks token (Ask rank victim) legal =
    let s = ask_says ranks token rank victim legal in
    strings-set ranks rank _ 0 0 s.0 (let none = held_at_rest (rank_of ranks rank).desk s.5 in omega arith)
strings-event ranks token (Give rank to count) legal =
    let s = give_says ranks token rank to count legal in
    let x : RankState = record (after_giving (rank_of ranks rank) rank to) { queued = (rank_of ranks rank).queued - count } in
    let mid : List RankState = set ranks rank x in
    let y : RankState = record (rank_of ranks to) { desk = Full rank count } in
    let asker : rank_of mid to ≡ rank_of ranks to = get_or-set_other ranks rank to x (fresh 0) (λ e. s.2 (sym e)) in
    let left : strings mid + count ≡ strings ranks + 0 = strings-set ranks rank x count 0 s.0 (let h = s.5 in omega arith) in
    let come : strings (set mid to y) + 0 ≡ strings mid + count = strings-set mid to y 0 count (let h = s.1 in simp length-set (omega arith))
    (let none = held_asked (rank_of ranks to).desk rank s.7 in
    let same = ap (λ (z : RankState). z.queued + held z.desk) asker in
    omega arith) in
    omega arith
strings-event ranks token (Refuse rank to) legal =
    let s = refuse_says ranks token rank to legal in
    strings-set ranks to _ 0 0 s.1 (let none = held_asked (rank_of ranks to).desk rank s.4 in omega arith)
strings-event ranks token (Take rank from count) legal =
    let s = take_says ranks token rank from count legal in
    strings-set ranks rank _ 0 0 s.0 (let all = held_full (rank_of ranks rank).desk from count s.4 in omega arith)
strings-event ranks token (TakeNone rank from) legal =
    let s = take_none_says ranks token rank from legal in
    strings-set ranks rank _ 0 0 s.0 (let none = held_refused (rank_of ranks rank).desk from s.4 in omega arith)
strings-event ranks token (Pass rank colour) legal = strings-set ranks rank _ 0 0 (pass_says ranks token rank colour legal).0.0 refl
strings-event ranks token (Restart rank) legal = strings-set ranks rank _ 0 0 (restart_says ranks token rank legal).0.0 refl
strings-event ranks token (Conclude rank) legal = strings-set ranks rank _ 0 0 (conclude_says ranks token rank legal).0.0 refl
strings-event ranks token (SeeOver rank) legal = strings-set ranks rank _ 0 0 (see_over_says ranks token rank legal).0 refl

chain : (first rest a b c more other : ℕ) → b + rest ≡ a + other → a + first ≡ c + more → b + (first + rest) ≡ c + (more + other)
chain first rest a b c more other one two = omega arith

pub strings-after_all : (events : List Event) (world : Seen) → IsRun world events
    → strings (after_all world events).0 + count_by is_handle events ≡ strings world.0 + sum_by pushed events
strings-after_all [] world run = refl
strings-after_all (event ∷ events) world (legal, run) =
    let next : Seen = after world event in
    ap (λ k. strings (after_all next events).0 + k) (sum_by-cons (λ e. cond (is_handle e) 1 0) event events)
    ∙ chain (cond (is_handle event) 1 0) (count_by is_handle events) (strings next.0) (strings (after_all next events).0) (strings world.0)
    (pushed event) (sum_by pushed events)
    (strings-after_all events next run) (strings-event world.0 world.1 event legal)
    ∙ ap (λ k. strings world.0 + k) (sym (sum_by-cons pushed event events))

no_batch : (deal : ℕ → ℕ) (a m : ℕ) → on_way_in (map (λ r. fresh (deal r)) (range_with_len a m)) ≡ 0
no_batch deal a zero = refl
no_batch deal a (suc m) =
    sum_by-cons (λ (x : RankState). held x.desk) (fresh (deal a)) (map (λ r. fresh (deal r)) (range_with_len (a + 1) m))
    ∙ (let rest = no_batch deal (a + 1) m in omega arith)

total : (ℕ → ℕ) → ℕ → ℕ → ℕ
total deal a m = queued_in (map (λ r. fresh (deal r)) (range_with_len a m))

total_cons : (deal : ℕ → ℕ) (a m : ℕ) → total deal a (suc m) ≡ deal a + total deal (a + 1) m
unfolding total
total_cons deal a m = sum_by-cons (λ (x : RankState). x.queued) (fresh (deal a)) (map (λ r. fresh (deal r)) (range_with_len (a + 1) m))

total_none : (deal : ℕ → ℕ) (a : ℕ) → total deal a zero ≡ 0
unfolding total
total_none deal a = refl

-- how many of the m ranks from a on are the rank t
hits : ℕ → ℕ → ℕ → ℕ
hits t a zero = 0
hits t a (suc m) = cond (t == a) 1 0 + hits t (a + 1) m

hits_below : (t a m : ℕ) → t < a → hits t a m ≡ 0
unfolding hits
hits_below t a zero h = refl
hits_below t a (suc m) h = let rest = hits_below t (a + 1) m (omega arith) in grind (arith, nat_tests)

hits_inside : (t a m : ℕ) → a ≤ t → t < a + m → hits t a m ≡ 1
unfolding hits
hits_inside t a zero low high = absurd (omega arith)
hits_inside t a (suc m) low high = dite (ℕ_discrete t a)
    (λ e. let rest = hits_below t (a + 1) m (omega arith) in grind (arith, nat_tests))
    (λ ne. let rest = hits_inside t (a + 1) m (omega arith) (omega arith) in grind (arith, nat_tests))

total_more : (n s a m : ℕ) → total (dealt n (suc s)) a m ≡ total (dealt n s) a m + hits (s % n) a m
unfolding hits
total_more n s a zero = total_none (dealt n (suc s)) a ∙ sym (ap (λ k. k + 0) (total_none (dealt n s) a))
total_more n s a (suc m) =
    let rest = total_more n s (a + 1) m in
    let here = dealt_more n s a in
    let before = total_cons (dealt n s) a m in
    let after = total_cons (dealt n (suc s)) a m in
    omega arith

total_zero : (n a m : ℕ) → total (dealt n 0) a m ≡ 0
total_zero n a zero = total_none (dealt n 0) a
total_zero n a (suc m) = total_cons (dealt n 0) a m ∙ (let rest = total_zero n (a + 1) m in omega arith)

-- each string goes to one rank
total_dealt : (n s : ℕ) → 0 < n → total (dealt n s) 0 n ≡ s
total_dealt n zero some = total_zero n 0 n
total_dealt n (suc s) some =
    let last = total_more n s 0 n in
    let one = hits_inside (s % n) 0 n (omega arith) (let below = mod-lt s {m = n} some in omega arith) in
    let before = total_dealt n s some in
    omega arith

pub strings-started : (n starts : ℕ) → 0 < n → strings (started n starts).0 ≡ starts
unfolding total
strings-started n starts some =
    let all = total_dealt n starts some in
    let none = no_batch (dealt n starts) 0 n in
    omega arith
