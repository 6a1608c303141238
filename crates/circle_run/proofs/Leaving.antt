-- What ranks leave at their end, in whatever way they ran: all have seen the end, or one has handled as many strings as it may.
use Rattle.circle_run.proofs.Prelude.{◌≡◌, ℕ, zero, suc, ◌<◌, ◌≤◌, ◌⊎◌, inl, inr, ⊎_elim, refl, sym, subst, ap, ◌∙◌, arith, true, List, [], ◌∷◌, map, length}
use Rattle.circle_run.proofs.Prelude.{get_or, Option, Some, None, All, IfSome, flat_map, Any, length-map, get_or-map, Strings, Shown, Halters, SumShown, Log}
use Rattle.circle_run.proofs.Prelude.{NoneLost, AreAll, AllEnded, Options, Rank, some_same}
use Rattle.circle_run.proofs.Maps.{flat_none, map_each, some_of}
use Rattle.circle_run.proofs.Turning.{either}
use Rattle.circle_run.proofs.Bounding.{if_some}

module _ {X : Type 0} where
  each_more : (A : X → Type 0) (x : X) (xs : List X) → A x → ((k : ℕ) (d : X) → k < length xs → A (get_or xs k d))
      → (k : ℕ) (d : X) → k < length (x ∷ xs) → A (get_or (x ∷ xs) k d)
  each_more A x xs first rest zero d h = first
  each_more A x xs first rest (suc k) d h = rest k d (omega (arith, h))

  -- where each is of one of two kinds, all are of the first or some is of the second
  all_or_one : (A B : X → Type 0) (xs : List X) → ((k : ℕ) (d : X) → k < length xs → A (get_or xs k d) ⊎ B (get_or xs k d))
      → ((k : ℕ) (d : X) → k < length xs → A (get_or xs k d)) ⊎ ((k : ℕ) × (k < length xs) × ((d : X) → B (get_or xs k d)))
  all_or_one A B [] each = inl (λ k d h. absurd (omega (arith, h)))
  all_or_one A B (x ∷ xs) each = ⊎_elim
      (λ a. ⊎_elim (λ rest. inl (each_more A x xs a rest)) (λ one. inr (suc one.0, omega (arith, one.1), one.2))
      (all_or_one A B xs (λ k d h. each (suc k) d (omega (arith, h)))))
      (λ b. inr (zero, omega arith, λ d. b))
      (each zero x (omega arith))

module _ {J S T : Type 0} where
  -- each rank has seen the end
  abbrev pub HaveEnded : List (Rank J S T) → Type 0
  HaveEnded ranks = (k : ℕ) (d : Rank J S T) → k < length ranks → (get_or ranks k d).ended ≡ true

module _ {J S T P Q : Type 0} (log : J → Log) (shows : S → Shown) (seats : P → S → Type 0) (sums_shows : T → SumShown) (sums_seats : Q → T → Type 0) where
  -- all ranks of a run at their end, whose seats came together
  pub record Gathered (o : Options) (ranks : List (Rank J S T)) (p : P) (q : Q) (all_seats : List S) : Type 0 where
    pub all : AreAll o ranks
    pub done : AllEnded log shows seats sums_shows sums_seats ranks p q
    pub found : NoneLost ranks
    pub seats_are : all_seats ≡ map (λ (r : Rank J S T). r.seat) ranks
    pub halters : Halters shows (seats p) all_seats

  abbrev handled_by : Rank J S T → ℕ
  handled_by r = length (log r.job)

  -- some rank has handled as many strings as it may
  abbrev HasHandled : Options → List (Rank J S T) → Rank J S T → Type 0
  HasHandled o ranks d = (k : ℕ) × (k < length ranks) × (o.stop_after ≡ Some (handled_by (get_or ranks k d)))

  -- so it is where a rank has stopped
  cause : (o : Options) (ranks : List (Rank J S T)) (p : P) (q : Q) (all_seats : List S) → Gathered o ranks p q all_seats
      → (k : ℕ) (d : Rank J S T) → k < length ranks → (get_or ranks k d).stopped ≡ true → HasHandled o ranks d
  cause o ranks p q all_seats x k d h stopped =
      let long : length all_seats ≡ length ranks = ap length x.seats_are ∙ length-map ranks (λ (r : Rank J S T). r.seat) in
      let seat_at : (i : ℕ) → i < length ranks → get_or all_seats i d.seat ≡ (get_or ranks i d).seat =
      λ i inside. ap (λ (l : List S). get_or l i d.seat) x.seats_are ∙ get_or-map (λ (r : Rank J S T). r.seat) ranks i d d.seat inside in
      let as_many : (i : ℕ) → i < length ranks → (shows (get_or ranks i d).seat).halted ≡ true → HasHandled o ranks d =
      λ i inside halted. (
        i,
        inside,
        ap (λ (y : Options). y.stop_after) (sym (x.all.each i d inside).1)
            ∙ ((x.done i d inside).ready.bounded (x.found i d inside)).halts halted,
      ) in
      ⊎_elim (as_many k h)
      (λ knows.
      let far = x.halters k d.seat (omega (arith, h, long)) (ap (λ (s : S). (shows s).knows_halt) (seat_at k h) ∙ knows) in
      let inside : far.0 < length ranks = (let i = far.1 in omega (arith, i, long)) in
      as_many far.0 inside (ap (λ (s : S). (shows s).halted) (sym (seat_at far.0 inside)) ∙ far.2))
      (((x.done k d h).ready.bounded (x.found k d h)).stops stopped)

  done_by : (o : Options) (ranks : List (Rank J S T)) (p : P) (q : Q) (all_seats : List S) → Gathered o ranks p q all_seats
      → (k : ℕ) (d : Rank J S T) → k < length ranks → ((get_or ranks k d).ended ≡ true) ⊎ ((get_or ranks k d).stopped ≡ true)
  done_by o ranks p q all_seats x k d h = either (get_or ranks k d).ended (get_or ranks k d).stopped ((x.done k d h).over refl).0

  -- each has seen the end of a run that stops after no number
  pub have_ended : (o : Options) (ranks : List (Rank J S T)) (p : P) (q : Q) (all_seats : List S) → Gathered o ranks p q all_seats
      → o.stop_after ≡ None → HaveEnded ranks
  have_ended o ranks p q all_seats x endless k d h = ⊎_elim (λ ended. ended)
      (λ stopped.
      let c = cause o ranks p q all_seats x k d h stopped in
      let clash : None ≡ Some (handled_by (get_or ranks c.0 d)) = sym endless ∙ c.2 in cc)
      (done_by o ranks p q all_seats x k d h)

  -- where each has, nothing is left
  none_waits : (o : Options) (ranks : List (Rank J S T)) (p : P) (q : Q) (all_seats : List S) (left : Strings) → Gathered o ranks p q all_seats
      → left ≡ flat_map (λ (r : Rank J S T). r.queue) ranks → HaveEnded ranks → left ≡ []
  none_waits o ranks p q all_seats left x left_are gone =
      left_are ∙ flat_none (λ (r : Rank J S T). r.queue) ranks (λ k d h. (x.done k d h).ready.knows.over (gone k d h))

  pub none_left : (o : Options) (ranks : List (Rank J S T)) (p : P) (q : Q) (all_seats : List S) (left : Strings) → Gathered o ranks p q all_seats
      → left ≡ flat_map (λ (r : Rank J S T). r.queue) ranks → o.stop_after ≡ None → left ≡ []
  none_left o ranks p q all_seats left x left_are endless =
      none_waits o ranks p q all_seats left x left_are (have_ended o ranks p q all_seats x endless)

  -- no rank handled more strings than it may
  pub within : (o : Options) (ranks : List (Rank J S T)) (p : P) (q : Q) (all_seats : List S) (jobs : List J) → Gathered o ranks p q all_seats
      → jobs ≡ map (λ (r : Rank J S T). r.job) ranks → IfSome o.stop_after (λ k. All (λ (job : J). length (log job) ≤ k) jobs)
  within o ranks p q all_seats jobs x jobs_are = if_some o.stop_after (λ k. All (λ (job : J). length (log job) ≤ k) jobs)
      (λ k is. map_each (λ (i : ℕ) (job : J). length (log job) ≤ k) (λ (r : Rank J S T). r.job) ranks jobs jobs_are
      (λ i d h. subst (λ (s : Option ℕ). IfSome s (λ m. handled_by (get_or ranks i d) ≤ m))
      (ap (λ (y : Options). y.stop_after) (x.all.each i d h).1 ∙ is) ((x.done i d h).ready.bounded (x.found i d h)).most))

  -- only where some rank handled as many is something left
  pub left_by : (o : Options) (ranks : List (Rank J S T)) (p : P) (q : Q) (all_seats : List S) (jobs : List J) (left : Strings)
      → Gathered o ranks p q all_seats → jobs ≡ map (λ (r : Rank J S T). r.job) ranks → left ≡ flat_map (λ (r : Rank J S T). r.queue) ranks
      → IfSome o.stop_after (λ k. (left ≡ []) ⊎ Any (λ (job : J). length (log job) ≡ k) jobs)
  left_by o ranks p q all_seats jobs left x jobs_are left_are =
      let Leaves : ℕ → Type 0 = λ k. (left ≡ []) ⊎ Any (λ (job : J). length (log job) ≡ k) jobs in
      if_some o.stop_after Leaves (λ k is. ⊎_elim
      (λ gone. inl (none_waits o ranks p q all_seats left x left_are gone))
      (λ one.
      let d : Rank J S T = some_of ranks (let i = one.1 in omega (arith, i)) in
      let c = cause o ranks p q all_seats x one.0 d one.1 (one.2 d) in
      let r : Rank J S T = get_or ranks c.0 d in
      let long : length jobs ≡ length ranks = ap length jobs_are ∙ length-map ranks (λ (y : Rank J S T). y.job) in
      inr (
        c.0,
        r.job,
        (let i = c.1 in omega (arith, i, long)),
        ap (λ (l : List J). get_or l c.0 r.job) jobs_are ∙ get_or-map (λ (y : Rank J S T). y.job) ranks c.0 d r.job c.1,
        some_same (handled_by r) k (sym c.2 ∙ is),
      ))
      (all_or_one (λ (y : Rank J S T). y.ended ≡ true) (λ (y : Rank J S T). y.stopped ≡ true) ranks (done_by o ranks p q all_seats x)))
