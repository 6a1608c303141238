-- A whole run over a board that tells nothing: how it begins, and what it leaves.
use Rattle.circle_run.proofs.Prelude.{◌≡◌, ℕ, ◌<◌, ◌≤◌, refl, sym, subst, ap, ◌∙◌, arith, true, false, List, [], ◌∷◌, map, length, get_or, Option, Some, None}
use Rattle.circle_run.proofs.Prelude.{Vec, length-map, get_or-map, get_or_default, get_or-map-range_with_len, Contains-get_or, flat_map-map, sum_by-cons}
use Rattle.circle_run.proofs.Prelude.{flat_map, range_with_len, sum_by, generator_of, Strings, Shown, Batches, AllFresh, Even, AllEven, Halters, unused}
use Rattle.circle_run.proofs.Prelude.{SumShown, Log, Balanced, Move, Side, events_of, counted, nothing_done, RankPlayed, PlayedApart, dealt_to, DoesAll}
use Rattle.circle_run.proofs.Prelude.{NoneLost, Alone, lone_side, AreNew, Options, Rank, map-map, all_left, HostsAreBalanced, handled_in, given_in, taken_in}
use Rattle.circle_run.proofs.Prelude.{IsProgress, IsOutcome, Share, Finished, RankRan, AllRan, InPlace, IsHost, Starting, Ending}
use Rattle.post_board.specs.Fresh.{fresh}
use Rattle.std.specs.Prelude.{min, ◌^◌, ◌-◌}
use Rattle.post_board.specs.Calls.{ByNumber as SeatsByNumber}
use Rattle.sum_tree.specs.Shown.{ByNumber as SumsByNumber}
use Rattle.sum_tree.specs.Plain.{fresh as fresh_sums}
use Rattle.circle_run.proofs.Columns.{job_of, queue_of, share_of}
use Rattle.circle_run.proofs.Maps.{map_same, sum_by-map, some_of, sum_same, capped_sum}
use Rattle.circle_run.proofs.Counting.{capped, share_alone}
use Rattle.circle_run.proofs.Apart.{of_all, evened, whole as apart_whole}
use Rattle.circle_run.proofs.Final.{are_all, all_ended}
use Rattle.circle_run.proofs.Finishing.{progressed, seats_done, sums_done}
use Rattle.circle_run.proofs.Leaving.{Gathered, none_left, within, left_by}
use Rattle.circle_run.proofs.New.{ready_at_first}

module _ {J S T : Type 0} where
  pub whole_host : (whole : List (Rank J S T)) → InPlace whole → IsHost whole whole
  whole_host whole place = record {
    order = λ j k d lt h. (let a = place j d (omega arith) in let b = place k d h in omega arith);
    ones = λ k d h. (let r : Rank J S T = get_or whole k d in let e : r.me ≡ k = place k d h in record {
      inside = omega arith;
      is = ap (λ (m : ℕ). get_or whole m r) e ∙ get_or_default whole k r d h;
    });
  }

module _ {J S T P Q : Type 0} (log : J → Log) (shows : S → Shown) (seats : P → S → Type 0) (sums_shows : T → SumShown) (sums_seats : Q → T → Type 0) where
  pub starting : (o : Options) (starts : Strings) (jobs : List J) (all_seats : List S) (all_sums : List T) (queues : List Strings)
      (whole : List (Rank J S T)) (p : P) (q : Q)
      → AreNew log o jobs all_seats all_sums queues whole → length jobs ≡ o.ranks → o.ranks ≤ 64 → o.width ≤ 64
      → AllFresh shows (seats p) o.ranks (Some (unused o.ranks)) all_seats
      → ((k : ℕ) (d : T) → k < o.ranks → sums_seats q (get_or all_sums k d) × (sums_shows (get_or all_sums k d) ≡ fresh_sums o.ranks o.width k))
      → queues ≡ map (dealt_to o.ranks starts) (range_with_len 0 o.ranks) → Starting log shows seats sums_shows sums_seats o starts whole p q
  starting o starts jobs all_seats all_sums queues whole p q new count few narrow fresh_seats fresh_all dealt =
      let long : length whole ≡ o.ranks = sym (length-map whole (λ (r : Rank J S T). r.job)) ∙ ap length new.jobs_are ∙ count in
      let me : (k : ℕ) (d : Rank J S T) → k < length whole → (get_or whole k d).me ≡ k = λ k d h. ap (λ (r : Rank J S T). r.me) (new.new k d h).same in
      let seat_is : (k : ℕ) (d : Rank J S T) → k < length whole → get_or all_seats k d.seat ≡ (get_or whole k d).seat =
      λ k d h. ap (λ (l : List S). get_or l k d.seat) (sym new.seats_are) ∙ get_or-map (λ (r : Rank J S T). r.seat) whole k d d.seat h in
      let sum_is : (k : ℕ) (d : Rank J S T) → k < length whole → get_or all_sums k d.sums_seat ≡ (get_or whole k d).sums_seat =
      λ k d h. ap (λ (l : List T). get_or l k d.sums_seat) (sym new.sums_are) ∙ get_or-map (λ (r : Rank J S T). r.sums_seat) whole k d d.sums_seat h in
      let shown : (k : ℕ) (d : Rank J S T) → k < length whole → shows (get_or whole k d).seat ≡ fresh o.ranks k (Some (unused o.ranks)) =
      λ k d h. ap shows (sym (seat_is k d h)) ∙ (fresh_seats.each k d.seat (omega (arith, h, long))).1 in
      let sum_shown : (k : ℕ) (d : Rank J S T) → k < length whole → sums_shows (get_or whole k d).sums_seat ≡ fresh_sums o.ranks o.width k =
      λ k d h. ap sums_shows (sym (sum_is k d h)) ∙ (fresh_all k d.sums_seat (omega (arith, h, long))).1 in
      record {
        count = long;
        place = me;
        options = λ k d h. ap (λ (r : Rank J S T). r.options) (new.new k d h).same;
        unshared = λ k d h. (new.new k d h).share;
        ready = λ k d h. (let within : k < o.ranks = omega (arith, h, long) in
            let r : Rank J S T = get_or whole k d in
            record {
              ready = ready_at_first log shows seats sums_shows sums_seats r.job r.seat r.sums_seat r.queue o k r p q
                  (Some (unused o.ranks)) (new.new k d h) (new.unused k d h)
                  (shown k d h) (subst (seats p) (seat_is k d h) (fresh_seats.each k d.seat within).0) (sum_shown k d h)
                  (subst (sums_seats q) (sum_is k d h) (fresh_all k d.sums_seat within).0) within few narrow;
              over = λ e. (let f : false ≡ true = e in cc);
              going = λ e. ap (λ (x : SumShown). x.answer) (sum_shown k d h);
            });
        sides = λ k d h. (let r : Rank J S T = get_or whole k d in
            let queue : r.queue ≡ dealt_to o.ranks starts k =
            sym (get_or-map (λ (x : Rank J S T). x.queue) whole k d [] h) ∙ ap (λ (l : List Strings). get_or l k []) (new.queues_are ∙ dealt)
            ∙ get_or-map-range_with_len (dealt_to o.ranks starts) 0 o.ranks k k [] (omega (arith, h, long)) (omega arith) in
            let draws : r.draws ≡ generator_of o.seed k = ap (λ (x : Rank J S T). x.draws) (new.new k d h).same in
            let logs : log r.job ≡ [] = new.unused k d h in
            let batches : (shows r.seat).batches ≡ Some (unused o.ranks) = ap (λ (x : Shown). x.batches) (shown k d h) in
            cc);
      }

one_each : {X : Type 0} (xs : List X) → sum_by (λ (x : X). 1) xs ≡ length xs
one_each [] = refl
one_each (x ∷ xs) = omega (arith, sum_by-cons (λ (y : _). 1) x xs, one_each xs)

module _ {J S T P Q D : Type 0} (log : J → Log) (plain : J → D) (shows : S → Shown) (seats : P → S → Type 0)
    (sums_shows : T → SumShown) (sums_seats : Q → T → Type 0) where
  -- a rank's own moves, and its share
  record Own (o : Options) (starts : Strings) (k : ℕ) (r : Rank J S T) : Type 0 where
    moves : List Move
    does : DoesAll o k moves
        (record {
          queue = dealt_to o.ranks starts k;
          log = [];
          draws = generator_of o.seed k;
          batches = Some (unused o.ranks);
          told = None;
        }) (lone_side log shows r)
    share : r.book.share ≡ capped (length (flat_map handled_in moves)) (length (flat_map given_in moves)) (length (flat_map taken_in moves))
    counts : r.book.share ≡ counted (flat_map (events_of k) moves) nothing_done

  own : (o : Options) (starts : Strings) (whole final : List (Rank J S T)) (p : P) (q : Q)
      → Starting log shows seats sums_shows sums_seats o starts whole p q
      → Ending log plain shows seats sums_shows sums_seats whole final p q → (k : ℕ) (d : Rank J S T) → k < length final → Own o starts k (get_or final k d)
  own o starts whole final p q first last k d h =
      let r : Rank J S T = get_or final k d in
      let e : r.me ≡ k = last.place k d h in
      let n = last.count in
      let inside : k < length whole = omega (arith, n, h) in
      let r0 : Rank J S T = get_or whole k r in
      let a : Alone log shows r0 r = subst (λ (m : ℕ). Alone log shows (get_or whole m r) r) e (last.alone k d h) in
      let one : DoesAll r0.options r0.me a.moves (lone_side log shows r0) (lone_side log shows r) = a.does in
      let two : DoesAll o r0.me a.moves (lone_side log shows r0) (lone_side log shows r) =
      subst (λ (x : Options). DoesAll x r0.me a.moves (lone_side log shows r0) (lone_side log shows r)) (first.options k r inside) one in
      let three : DoesAll o k a.moves (lone_side log shows r0) (lone_side log shows r) =
      subst (λ (m : ℕ). DoesAll o m a.moves (lone_side log shows r0) (lone_side log shows r)) (first.place k r inside) two in
      record {
        moves = a.moves;
        does = subst (λ (s : Side). DoesAll o k a.moves s (lone_side log shows r)) (first.sides k r inside) three;
        share = a.share ∙ share_alone r0.options r0.me a.moves (lone_side log shows r0) (lone_side log shows r) r0.book.share one (first.unshared k r inside);
        counts = a.share ∙ ap (λ (m : ℕ). counted (flat_map (events_of m) a.moves) r0.book.share) (first.place k r inside)
            ∙ ap (counted (flat_map (events_of k) a.moves)) (first.unshared k r inside);
      }

  rank_played : (o : Options) (starts : Strings) (whole final : List (Rank J S T)) (p : P) (q : Q) (kept : S → Batches)
      → ((s : S) → (shows s).batches ≡ Some (kept s))
      → Starting log shows seats sums_shows sums_seats o starts whole p q → Ending log plain shows seats sums_shows sums_seats whole final p q
      → (k : ℕ) (d : Rank J S T) → k < length final → let r = get_or final k d in
      RankPlayed o k (dealt_to o.ranks starts k) (log r.job) r.queue (kept r.seat) r.book.share
  rank_played o starts whole final p q kept keeps first last k d h =
      let x = own o starts whole final p q first last k d h in
      record {
        ran = record {
          moves = x.moves;
          last = lone_side log shows (get_or final k d);
          does = x.does;
          queued = refl;
          logged = refl;
          kept = keeps (get_or final k d).seat;
        };
        counts = x.counts;
      }

  rank_ran : (o : Options) (starts : Strings) (whole final : List (Rank J S T)) (p : P) (q : Q) (kept : S → Batches)
      → ((s : S) → (shows s).batches ≡ Some (kept s))
      → Starting log shows seats sums_shows sums_seats o starts whole p q → Ending log plain shows seats sums_shows sums_seats whole final p q
      → (k : ℕ) (d : Rank J S T) → k < length final → let r = get_or final k d in
      RankRan o k (dealt_to o.ranks starts k) (log r.job) r.queue (kept r.seat)
  rank_ran o starts whole final p q kept keeps first last k d h = (rank_played o starts whole final p q kept keeps first last k d h).ran

  -- what a rank handled is its log, and what it gave and took are its seat's batches
  rank_share : (o : Options) (starts : Strings) (whole final : List (Rank J S T)) (p : P) (q : Q) (kept : S → Batches)
      → ((s : S) → (shows s).batches ≡ Some (kept s))
      → Starting log shows seats sums_shows sums_seats o starts whole p q → Ending log plain shows seats sums_shows sums_seats whole final p q
      → (k : ℕ) (d : Rank J S T) → k < length final → let r = get_or final k d in
      r.book.share ≡ capped (length (log r.job)) (of_all (λ s. 1) (kept r.seat).given) (of_all (λ s. 1) (kept r.seat).taken)
  rank_share o starts whole final p q kept keeps first last k d h =
      let r : Rank J S T = get_or final k d in
      let x = own o starts whole final p q first last k d h in
      let w = apart_whole o k (dealt_to o.ranks starts k) (log r.job) r.queue (kept r.seat) x.moves (lone_side log shows r) x.does
      refl refl (keeps r.seat) in
      let one : List ℕ → ℕ = λ s. 1 in
      let handled : length (flat_map handled_in x.moves) ≡ length (log r.job) = ap length (sym w.logged) in
      let given : length (flat_map given_in x.moves) ≡ of_all one (kept r.seat).given = sym (one_each (flat_map given_in x.moves)) ∙ sym (w.gave one) in
      let taken : length (flat_map taken_in x.moves) ≡ of_all one (kept r.seat).taken = sym (one_each (flat_map taken_in x.moves)) ∙ sym (w.took one) in
      x.share
      ∙ ap (λ (n : ℕ). capped n (length (flat_map given_in x.moves)) (length (flat_map taken_in x.moves))) handled
      ∙ ap (λ (n : ℕ). capped (length (log r.job)) n (length (flat_map taken_in x.moves))) given
      ∙ ap (λ (n : ℕ). capped (length (log r.job)) (of_all one (kept r.seat).given) n) taken

  -- all ranks
  all_ran : (o : Options) (starts : Strings) (whole final : List (Rank J S T)) (p : P) (q : Q) (kept : S → Batches) (all_seats : List S)
      → ((s : S) → (shows s).batches ≡ Some (kept s)) → 0 < o.ranks
      → Starting log shows seats sums_shows sums_seats o starts whole p q → Ending log plain shows seats sums_shows sums_seats whole final p q
      → all_seats ≡ map (λ (r : Rank J S T). r.seat) final → AllEven shows (seats p) all_seats
      → AllRan o starts (map (λ (r : Rank J S T). log r.job) final) (map (λ (r : Rank J S T). r.queue) final) (map (λ (r : Rank J S T). kept r.seat) final)
  all_ran o starts whole final p q kept all_seats keeps some first last seats_are even =
      let bs : List Batches = map (λ (r : Rank J S T). kept r.seat) final in
      let queues : List Strings = map (λ (r : Rank J S T). r.queue) final in
      let long : length final ≡ o.ranks = last.count ∙ first.count in
      let d : Rank J S T = some_of final (omega (arith, long, some)) in
      record {
        count = length-map final (λ (r : Rank J S T). log r.job) ∙ long;
        lists = length-map final (λ (r : Rank J S T). r.queue) ∙ long;
        as_many = length-map final (λ (r : Rank J S T). kept r.seat) ∙ long;
        each = λ k l left b h. (let g : k < length final = omega (arith, h, long) in
            let r : Rank J S T = get_or final k d in
            subst (λ (x : Log). RankRan o k (dealt_to o.ranks starts k) x (get_or queues k left) (get_or bs k b))
            (sym (get_or-map (λ (r : Rank J S T). log r.job) final k d l g))
            (subst (λ (x : Strings). RankRan o k (dealt_to o.ranks starts k) (log r.job) x (get_or bs k b))
            (sym (get_or-map (λ (r : Rank J S T). r.queue) final k d left g))
            (subst (λ (x : Batches). RankRan o k (dealt_to o.ranks starts k) (log r.job) r.queue x)
            (sym (get_or-map (λ (r : Rank J S T). kept r.seat) final k d b g))
            (rank_ran o starts whole final p q kept keeps first last k d g))));
        even = λ i j b h g. (let hi : i < length final = omega (arith, h, long) in let hj : j < length final = omega (arith, g, long) in
            let size : length all_seats ≡ length final = ap length seats_are ∙ length-map final (λ (r : Rank J S T). r.seat) in
            let at : (k : ℕ) → k < length final → get_or all_seats k d.seat ≡ (get_or final k d).seat =
            λ k x. ap (λ (l : List S). get_or l k d.seat) seats_are ∙ get_or-map (λ (r : Rank J S T). r.seat) final k d d.seat x in
            let is : (k : ℕ) → k < length final → (shows (get_or all_seats k d.seat)).batches ≡ Some (get_or bs k b) =
            λ k x. ap (λ (s : S). (shows s).batches) (at k x) ∙ keeps (get_or final k d).seat
            ∙ ap (λ (y : Batches). Some y) (sym (get_or-map (λ (r : Rank J S T). kept r.seat) final k d b x)) in
            let by = seats_done log plain shows (λ (x : P). None) seats sums_shows sums_seats o final p q all_seats
            (are_all log plain shows seats sums_shows sums_seats o starts whole final p q first last)
            (all_ended log plain shows seats sums_shows sums_seats whole final p q last) seats_are in
            let gi : i < length all_seats = omega (arith, hi, size) in
            let gj : j < length all_seats = omega (arith, hj, size) in
            let x : S = get_or all_seats i d.seat in
            let y : S = get_or all_seats j d.seat in
            let e = even x y (Contains-get_or all_seats i d.seat gi) (Contains-get_or all_seats j d.seat gj) in
            subst (λ (z : Option Batches). Even z i (Some (get_or bs j b)) j) (is i hi)
            (subst (λ (z : Option Batches). Even (shows x).batches i z j) (is j hj)
            (subst (λ (k : ℕ). Even (shows x).batches k (shows y).batches j) (by i d.seat gi).1
            (subst (λ (k : ℕ). Even (shows x).batches (shows x).number (shows y).batches k) (by j d.seat gj).1 e))));
      }

  -- and what each did
  all_played : (o : Options) (starts : Strings) (whole final : List (Rank J S T)) (p : P) (q : Q) (kept : S → Batches) (all_seats : List S)
      → ((s : S) → (shows s).batches ≡ Some (kept s)) → 0 < o.ranks
      → Starting log shows seats sums_shows sums_seats o starts whole p q → Ending log plain shows seats sums_shows sums_seats whole final p q
      → all_seats ≡ map (λ (r : Rank J S T). r.seat) final → AllEven shows (seats p) all_seats
      → PlayedApart o starts (map (λ (r : Rank J S T). log r.job) final) (map (λ (r : Rank J S T). r.queue) final)
      (map (λ (r : Rank J S T). r.book.share) final)
  all_played o starts whole final p q kept all_seats keeps some first last seats_are even =
      let bs : List Batches = map (λ (r : Rank J S T). kept r.seat) final in
      let queues : List Strings = map (λ (r : Rank J S T). r.queue) final in
      let shares : List Share = map (λ (r : Rank J S T). r.book.share) final in
      let long : length final ≡ o.ranks = last.count ∙ first.count in
      record {
        batches = bs;
        all = all_ran o starts whole final p q kept all_seats keeps some first last seats_are even;
        as_many = length-map final (λ (r : Rank J S T). r.book.share) ∙ long;
        each = λ k l left b s h. (let d : Rank J S T = some_of final (omega (arith, long, some)) in
            let g : k < length final = omega (arith, h, long) in
            let r : Rank J S T = get_or final k d in
            subst (λ (x : Log). RankPlayed o k (dealt_to o.ranks starts k) x (get_or queues k left) (get_or bs k b) (get_or shares k s))
            (sym (get_or-map (λ (r : Rank J S T). log r.job) final k d l g))
            (subst (λ (x : Strings). RankPlayed o k (dealt_to o.ranks starts k) (log r.job) x (get_or bs k b) (get_or shares k s))
            (sym (get_or-map (λ (r : Rank J S T). r.queue) final k d left g))
            (subst (λ (x : Batches). RankPlayed o k (dealt_to o.ranks starts k) (log r.job) r.queue x (get_or shares k s))
            (sym (get_or-map (λ (r : Rank J S T). kept r.seat) final k d b g))
            (subst (λ (x : Share). RankPlayed o k (dealt_to o.ranks starts k) (log r.job) r.queue (kept r.seat) x)
            (sym (get_or-map (λ (r : Rank J S T). r.book.share) final k d s g))
            (rank_played o starts whole final p q kept keeps first last k d g)))));
      }

  -- what is known of a run over several threads once its ranks were taken apart
  pub record Closing (o : Options) (starts : Strings) (jobs : List J) (whole final : List (Rank J S T)) (p : P) (q : Q) (kept : S → Batches)
      (all_seats : List S) (total : ℕ)
      (f : Finished J) : Type 0 where
    pub law : HostsAreBalanced
    pub keeps : (s : S) → (shows s).batches ≡ Some (kept s)
    pub some : 1 ≤ o.ranks
    pub first : Starting log shows seats sums_shows sums_seats o starts whole p q
    pub given_jobs : map (λ (r : Rank J S T). r.job) whole ≡ jobs
    pub last : Ending log plain shows seats sums_shows sums_seats whole final p q
    pub found : NoneLost final
    pub even : AllEven shows (seats p) all_seats
    pub halters : Halters shows (seats p) all_seats
    -- what was taken of the ranks
    pub seats_are : all_seats ≡ map (λ (r : Rank J S T). r.seat) final
    pub jobs_are : f.jobs.items ≡ map (λ (r : Rank J S T). r.job) final
    pub left_are : map (λ (l : Vec (List ℕ) _). l.items) f.left.items ≡ map (λ (r : Rank J S T). r.queue) final
    pub shares_are : f.shares.items ≡ map (λ (r : Rank J S T). r.book.share) final
    pub sums_are : f.sums.items ≡ flat_map (λ (r : Rank J S T). r.book.sums.items) final
    pub answer : (d : Rank J S T) → (sums_shows (get_or final 0 d).sums_seat).answer ≡ Some total
    pub total_is : total ≡ sum_by (λ (r : Rank J S T). (sums_shows r.sums_seat).count) final

  outcome : (o : Options) (starts : Strings) (jobs : List J) (whole final : List (Rank J S T)) (p : P) (q : Q) (kept : S → Batches)
      (all_seats : List S) (total : ℕ) (f : Finished J)
      → Closing o starts jobs whole final p q kept all_seats total f → f.events.items ≡ [] → IsOutcome log plain o starts jobs f
  outcome o starts jobs whole final p q kept all_seats total f x untold =
      let logs : List Log = map (λ (r : Rank J S T). log r.job) final in
      let queues : List Strings = map (λ (r : Rank J S T). r.queue) final in
      let bs : List Batches = map (λ (r : Rank J S T). kept r.seat) final in
      let ran : AllRan o starts logs queues bs =
      all_ran o starts whole final p q kept all_seats x.keeps (let n = x.some in omega arith) x.first x.last x.seats_are x.even in
      let end : Gathered log shows seats sums_shows sums_seats o final p q all_seats = record {
        all = are_all log plain shows seats sums_shows sums_seats o starts whole final p q x.first x.last;
        done = all_ended log plain shows seats sums_shows sums_seats whole final p q x.last;
        found = x.found;
        seats_are = x.seats_are;
        halters = x.halters;
      } in
      let as_list : Strings → Strings = λ xs. xs in
      let all_queues : all_left f.left.items ≡ flat_map as_list queues =
      sym (flat_map-map as_list (λ (l : Vec (List ℕ) _). l.items) f.left.items) ∙ ap (flat_map as_list) x.left_are in
      let queued : all_left f.left.items ≡ flat_map queue_of final = all_queues ∙ flat_map-map as_list queue_of final in
      let all_logs : flat_map (λ (l : Log). l) logs ≡ flat_map log f.jobs.items =
      flat_map-map (λ (l : Log). l) (λ (r : Rank J S T). log r.job) final ∙ sym (flat_map-map log job_of final) ∙ ap (flat_map log) (sym x.jobs_are) in
      let balance : Balanced (flat_map (λ (l : Log). l) logs) (flat_map as_list queues) starts =
      x.law o starts logs queues bs (let n = x.some in omega arith) ran in
      let many : J → ℕ = λ j. length (log j) in
      let most : J → ℕ = λ j. min (many j) (2 ^ 64 - 1) in
      let facts_of : Rank J S T → D = λ r. plain r.job in
      let one : List ℕ → ℕ = λ s. 1 in
      let cap : ℕ = 2 ^ 128 - 1 in
      let given : Share → ℕ = λ s. s.given in
      let taken : Share → ℕ = λ s. s.taken in
      let gave : Batches → ℕ = λ b. of_all one b.given in
      let took : Batches → ℕ = λ b. of_all one b.taken in
      let shared : (k : ℕ) (d : Rank J S T) → k < length final
      → (get_or final k d).book.share
      ≡ capped (many (get_or final k d).job) (gave (kept (get_or final k d).seat)) (took (kept (get_or final k d).seat)) =
      rank_share o starts whole final p q kept x.keeps x.first x.last in
      let total_of : (count : Share → ℕ) (of : Batches → ℕ)
      → ((k : ℕ) (d : Rank J S T) → k < length final
      → count (get_or final k d).book.share ≡ min (of (kept (get_or final k d).seat)) cap)
      → min (sum_by count f.shares.items) cap ≡ min (sum_by of bs) cap =
      λ count of each. ap (λ (xs : List Share). min (sum_by count xs) cap) x.shares_are ∙ ap (λ (n : ℕ). min n cap) (sum_by-map count share_of final)
      ∙ ap (λ (n : ℕ). min n cap) (sum_same (λ (r : Rank J S T). count r.book.share) (λ (r : Rank J S T). min (of (kept r.seat)) cap) final each)
      ∙ capped_sum (λ (r : Rank J S T). of (kept r.seat)) cap final
      ∙ ap (λ (n : ℕ). min n cap) (sym (sum_by-map of (λ (r : Rank J S T). kept r.seat) final)) in
      let listed : length f.left.items ≡ length final = sym (length-map f.left.items (λ (l : Vec (List ℕ) _). l.items))
      ∙ ap length x.left_are ∙ length-map final queue_of in
      let as_many : length final ≡ length jobs = x.last.count ∙ sym (length-map whole job_of) ∙ ap length x.given_jobs in
      record {
        balance = subst (λ (l : Log). Balanced l (all_left f.left.items) starts) all_logs
            (subst (λ (l : Strings). Balanced (flat_map (λ (m : Log). m) logs) l starts) (sym all_queues) balance);
        whole = none_left log shows seats sums_shows sums_seats o final p q all_seats (all_left f.left.items) end queued;
        stop = within log shows seats sums_shows sums_seats o final p q all_seats f.jobs.items end x.jobs_are;
        left = left_by log shows seats sums_shows sums_seats o final p q all_seats f.jobs.items (all_left f.left.items) end x.jobs_are queued;
        jobs_count = ap length x.jobs_are ∙ length-map final job_of ∙ as_many;
        facts = ap (map plain) x.jobs_are ∙ map-map plain job_of final
            ∙ map_same facts_of facts_of final whole x.last.count
            (λ k d d' h. (let c = x.last.count in let r : Rank J S T = get_or final k d' in
            ap facts_of (get_or_default final k d d' h) ∙ (x.last.ends k d' h).facts
            ∙ ap (λ (m : ℕ). facts_of (get_or whole m r)) (x.last.place k d' h)
            ∙ ap facts_of (get_or_default whole k r d' (omega (arith, c, h)))))
            ∙ sym (map-map plain job_of whole) ∙ ap (map plain) x.given_jobs;
        lists = listed ∙ as_many;
        handled = ap (map (λ (y : Share). y.handled)) x.shares_are ∙ map-map (λ (y : Share). y.handled) share_of final
            ∙ map_same (λ (r : Rank J S T). r.book.share.handled) (λ (r : Rank J S T). most r.job) final final refl
            (λ k d d' h. ap (λ (y : Share). y.handled) (shared k d h) ∙ ap (λ (r : Rank J S T). most r.job) (get_or_default final k d d' h))
            ∙ sym (map-map most job_of final) ∙ ap (map most) (sym x.jobs_are);
        moved = total_of given gave (λ k d h. ap given (shared k d h))
            ∙ ap (λ (n : ℕ). min n cap) (evened o starts logs queues bs (let n = x.some in omega arith) ran one)
            ∙ sym (total_of taken took (λ k d h. ap taken (shared k d h)));
        untraced = λ off. untold;
        progress = subst (λ (ns : List ℕ). IsProgress ns f.sums.items) (sym (ap (map many) x.jobs_are ∙ map-map many job_of final))
            (progressed log plain shows (λ (b : P). None) seats sums_shows sums_seats o final p q total f.sums.items
            end.all x.some end.done x.found x.answer x.total_is x.sums_are);
      }

  -- what each rank has left and did
  apart : (o : Options) (starts : Strings) (jobs : List J) (whole final : List (Rank J S T)) (p : P) (q : Q) (kept : S → Batches)
      (all_seats : List S) (total : ℕ) (f : Finished J)
      → Closing o starts jobs whole final p q kept all_seats total f
      → PlayedApart o starts (map log f.jobs.items) (map (λ (l : Vec (List ℕ) _). l.items) f.left.items) f.shares.items
  apart o starts jobs whole final p q kept all_seats total f x =
      let logs : map log f.jobs.items ≡ map (λ (r : Rank J S T). log r.job) final = ap (map log) x.jobs_are ∙ map-map log job_of final in
      subst (λ (l : List Log). PlayedApart o starts l (map (λ (l : Vec (List ℕ) _). l.items) f.left.items) f.shares.items) (sym logs)
      (subst (λ (l : List Strings). PlayedApart o starts (map (λ (r : Rank J S T). log r.job) final) l f.shares.items) (sym x.left_are)
      (subst (λ (l : List Share). PlayedApart o starts (map (λ (r : Rank J S T). log r.job) final) (map (λ (r : Rank J S T). r.queue) final) l)
      (sym x.shares_are)
      (all_played o starts whole final p q kept all_seats x.keeps (let n = x.some in omega arith) x.first x.last x.seats_are x.even)))

  pub closed : (o : Options) (starts : Strings) (jobs : List J) (whole final : List (Rank J S T)) (p : P) (q : Q) (kept : S → Batches)
      (all_seats : List S) (total : ℕ) (f : Finished J)
      → Closing o starts jobs whole final p q kept all_seats total f
      → (f.events.items ≡ [] → IsOutcome log plain o starts jobs f)
      × PlayedApart o starts (map log f.jobs.items) (map (λ (l : Vec (List ℕ) _). l.items) f.left.items) f.shares.items
  closed o starts jobs whole final p q kept all_seats total f x =
      (outcome o starts jobs whole final p q kept all_seats total f x, apart o starts jobs whole final p q kept all_seats total f x)

  -- the seats may be gathered: here they stand by their numbers
  pub may_gather : (o : Options) (starts : Strings) (whole final : List (Rank J S T)) (p : P) (q : Q) (all_seats : List S) (all_sums : List T) → 1 ≤ o.ranks
      → Starting log shows seats sums_shows sums_seats o starts whole p q → Ending log plain shows seats sums_shows sums_seats whole final p q
      → all_seats ≡ map (λ (r : Rank J S T). r.seat) final → all_sums ≡ map (λ (r : Rank J S T). r.sums_seat) final
      → ((0 < length all_seats) × (0 < length all_sums)) × SeatsByNumber shows (seats p) all_seats
      × SumsByNumber sums_shows (sums_seats q) all_sums
  may_gather o starts whole final p q all_seats all_sums some first last seats_are sums_are =
      let all = are_all log plain shows seats sums_shows sums_seats o starts whole final p q first last in
      let ended = all_ended log plain shows seats sums_shows sums_seats whole final p q last in
      let long : length final ≡ o.ranks = last.count ∙ first.count in
      let a : length all_seats ≡ length final = ap length seats_are ∙ length-map final (λ (r : Rank J S T). r.seat) in
      let b : length all_sums ≡ length final = ap length sums_are ∙ length-map final (λ (r : Rank J S T). r.sums_seat) in (
        (omega (arith, a, long, some), omega (arith, b, long, some)),
        seats_done log plain shows (λ (x : P). None) seats sums_shows sums_seats o final p q all_seats all ended seats_are,
        sums_done log plain shows (λ (x : P). None) seats sums_shows sums_seats o final p q all_sums all ended sums_are,
      )
