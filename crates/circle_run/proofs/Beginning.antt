-- The ranks of a run as they begin: they are ready, and their stage is that of the deal.
use Rattle.circle_run.proofs.Prelude.{◌≡◌, ℕ, ◌<◌, ◌≤◌, refl, sym, subst, ap, ◌∙◌, arith, true, List, [], map, length, get_or, Option, None, length-map}
use Rattle.circle_run.proofs.Prelude.{get_or-map, get_or-map-range_with_len, range_with_len, Lcg, Strings, Shown, Told, fresh_told, AllFresh, SumShown, Log}
use Rattle.circle_run.proofs.Prelude.{RankSide, dealt_to, begun, IsAscending, NoneWrote, AreAll, AllReady, stage_of, AreNew, Options, Rank}
use Rattle.circle_run.specs.Hosts.{rank_of}
use Rattle.sum_tree.specs.Plain.{fresh as fresh_sums}
use Rattle.circle_run.proofs.Asked.{true_not_false}
use Rattle.circle_run.proofs.Begun.{new_side}
use Rattle.circle_run.proofs.New.{ready_at_first}
use Rattle.circle_run.proofs.Staged.{stage}
use Rattle.circle_run.proofs.Maps.{map_is}

abbrev a_side : Strings → Log → Lcg → RankSide
a_side queue log draws = record { queue = queue; log = log; draws = draws }

module _ {J S T P Q : Type 0} (log : J → Log) (shows : S → Shown) (tells : P → Option Told) (seats : P → S → Type 0)
    (sums_shows : T → SumShown) (sums_seats : Q → T → Type 0) where
  pub record Begins (o : Options) (starts : Strings) (ranks : List (Rank J S T)) (p : P) (q : Q) : Type 0 where
    pub order : IsAscending ranks
    pub ready : AllReady log shows seats sums_shows sums_seats ranks p q
    pub unwritten : NoneWrote ranks
    pub all : AreAll o ranks
    pub begun_is : stage_of log tells ranks (fresh_told o.ranks) ≡ begun o starts

  pub begins : (o : Options) (starts : Strings) (jobs : List J) (all_seats : List S) (all_sums : List T) (queues : List Strings)
      (ranks made : List (Rank J S T)) (p : P) (q : Q) → made ≡ ranks
      → AreNew log o jobs all_seats all_sums queues ranks → length jobs ≡ o.ranks → o.ranks ≤ 64 → o.width ≤ 64
      → AllFresh shows (seats p) o.ranks None all_seats
      → map sums_shows all_sums ≡ map (fresh_sums o.ranks o.width) (range_with_len 0 o.ranks)
      → ((k : ℕ) (d : T) → k < o.ranks → sums_seats q (get_or all_sums k d))
      → queues ≡ map (dealt_to o.ranks starts) (range_with_len 0 o.ranks) → Begins o starts made p q
  begins o starts jobs all_seats all_sums queues ranks made p q same new count few narrow fresh_seats sums_shown sums_mine dealt =
      let long : length ranks ≡ o.ranks = sym (length-map ranks (λ (r : Rank J S T). r.job)) ∙ ap length new.jobs_are ∙ count in
      let me : (k : ℕ) (d : Rank J S T) → k < length ranks → (get_or ranks k d).me ≡ k = λ k d h. ap (λ (r : Rank J S T). r.me) (new.new k d h).same in
      let seat_is : (k : ℕ) (d : Rank J S T) → k < length ranks → get_or all_seats k d.seat ≡ (get_or ranks k d).seat =
      λ k d h. ap (λ (l : List S). get_or l k d.seat) (sym new.seats_are) ∙ get_or-map (λ (r : Rank J S T). r.seat) ranks k d d.seat h in
      let sum_is : (k : ℕ) (d : Rank J S T) → k < length ranks → get_or all_sums k d.sums_seat ≡ (get_or ranks k d).sums_seat =
      λ k d h. ap (λ (l : List T). get_or l k d.sums_seat) (sym new.sums_are) ∙ get_or-map (λ (r : Rank J S T). r.sums_seat) ranks k d d.sums_seat h in
      let sums_long : length all_sums ≡ o.ranks = ap length (sym new.sums_are) ∙ length-map ranks (λ (r : Rank J S T). r.sums_seat) ∙ long in
      let sum_shown : (k : ℕ) (d : Rank J S T) → k < length ranks → sums_shows (get_or ranks k d).sums_seat ≡ fresh_sums o.ranks o.width k =
      λ k d h. (let none : SumShown = fresh_sums 0 0 0 in
      ap sums_shows (sym (sum_is k d h)) ∙ sym (get_or-map sums_shows all_sums k d.sums_seat none (omega (arith, h, long, sums_long)))
      ∙ ap (λ (l : List SumShown). get_or l k none) sums_shown
      ∙ get_or-map-range_with_len (fresh_sums o.ranks o.width) 0 o.ranks k k none (omega (arith, h, long)) (omega arith)) in
      subst (λ (xs : List (Rank J S T)). Begins o starts xs p q) (sym same) (record {
        order = λ j k d below inside. (let a = me j d (omega arith) in let b = me k d inside in omega arith);
        ready = λ k d h. (let within : k < o.ranks = omega (arith, h, long) in
            let r : Rank J S T = get_or ranks k d in
            let first = fresh_seats.each k d.seat within in
            let s = seat_is k d h in
            record {
              ready = ready_at_first log shows seats sums_shows sums_seats r.job r.seat r.sums_seat r.queue o k r p q None (new.new k d h) (new.unused k d h)
                  (ap shows (sym s) ∙ first.1) (subst (seats p) s first.0) (sum_shown k d h)
                  (subst (sums_seats q) (sum_is k d h) (sums_mine k d.sums_seat within)) within few narrow;
              over = λ e. absurd (true_not_false true refl (sym e));
              going = λ e. ap (λ (x : SumShown). x.answer) (sum_shown k d h);
            });
        unwritten = λ k d h. ((new.new k d h).lost, (new.new k d h).events);
        all = record { count = long; each = λ k d h. (me k d h, ap (λ (r : Rank J S T). r.options) (new.new k d h).same) };
        begun_is = ap (λ (xs : List RankSide). stage xs (fresh_told o.ranks)) (map_is (rank_of log tells) (new_side o starts) ranks o.ranks long
            (λ k d h. (let r : Rank J S T = get_or ranks k d in
            let queue : r.queue ≡ dealt_to o.ranks starts k =
            sym (get_or-map (λ (x : Rank J S T). x.queue) ranks k d [] h) ∙ ap (λ (l : List Strings). get_or l k []) (new.queues_are ∙ dealt)
            ∙ get_or-map-range_with_len (dealt_to o.ranks starts) 0 o.ranks k k [] (omega (arith, h, long)) (omega arith) in
            let draws = ap (λ (x : Rank J S T). x.draws) (new.new k d h).same in
            ap (λ (x : Strings). a_side x (log r.job) r.draws) queue ∙ ap (λ (x : Log). a_side (dealt_to o.ranks starts k) x r.draws) (new.unused k d h)
            ∙ ap (λ (x : Lcg). a_side (dealt_to o.ranks starts k) [] x) draws)));
      })
