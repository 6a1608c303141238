-- A service, one answer after the other, and what it comes to.
use Rattle.circle_run.proofs.Prelude.{◌≡◌, ℕ, All, zero, suc, ◌+◌, ◌-◌, ◌<◌, ◌≤◌, ◌⊎◌, refl, sym, subst, ap, ◌∙◌, arith, Bool, true, false, List, [], ◌∷◌, ◌++◌}
use Rattle.circle_run.proofs.Prelude.{map, length, length-append, append_assoc, append-nil, get_or, Option, None, inl, inr, replicate, ◌≢◌, if◌then◌else◌}
use Rattle.circle_run.proofs.Prelude.{flat_map, map-append, length-map, length-take-le, get_or-take, get_or-map, nil_from_length, take-suc, Lcg, Event, Strings}
use Rattle.circle_run.proofs.Prelude.{Shown, Batches, Told, Deed, event_of, Tells, Log, Move, served, Side, answer_of, amounts, events_of, AreAskers, IsHalted}
use Rattle.circle_run.proofs.Prelude.{IsShared, TellsAll, batches_after, batches_after_all, counted, DoesAll, Knows, Went, Came, Served, amounts_of, Fits}
use Rattle.circle_run.proofs.Prelude.{AsksOf, Awaits, Taken, Gave, Answered, SoFar, Serving, Lot, ByLot, Book, Share, Options, Rank, false_from_ne_true}
use Rattle.circle_run.proofs.Prelude.{in_list}
use Rattle.std.proofs.Common.{take}
use Rattle.std.proofs.lemmas.Grind.{flat_map-append}
use Rattle.circle_run.specs.Ranks.{side}
use Rattle.circle_run.specs.declared.lots.Lot.TheVariants.{Same}
use Rattle.circle_run.proofs.Stepped.{counted_then, kept_then, side_as, still_then, kept_none}
use Rattle.circle_run.proofs.Asked.{true_not_false, asks_less, none_left}

told_push : (me : ℕ) (ds : List Deed) (d : Deed) (a b c : Option Told) → TellsAll me ds a b → Tells me d b c → TellsAll me (ds ++ d ∷ []) a c
told_push me [] d a b c all one = (c, subst (λ (x : Option Told). Tells me d x c) all one, refl)
told_push me (e ∷ ds) d a b c all one = (all.0, all.1, told_push me ds d all.0 b c all.2 one)

batches_push : (ds : List Deed) (d : Deed) (b : Option Batches) → batches_after_all (ds ++ d ∷ []) b ≡ batches_after d (batches_after_all ds b)
batches_push [] d b = refl
batches_push (e ∷ ds) d b = batches_push ds d (batches_after e b)

none_more : (lot : Lot) (from : Lcg) → amounts_of lot zero from ≡ ([], from)
none_more (Same share) from = refl
none_more (ByLot left) from = refl

module _ {J S T P : Type 0} (log : J → Log) (shows : S → Shown) (tells : P → Option Told) (seats : P → S → Type 0) where
  pub serving_none : (r : Rank J S T) (p : P) (asks : List ℕ) (lot : Lot) (count : ℕ) → Knows shows r → seats p r.seat
      → Awaits (shows r.seat) (tells p) → AsksOf (shows r.seat) asks 0 count → Fits lot count (length r.queue)
      → Serving log shows tells seats r p r p asks lot lot 0 count
  serving_none r p asks lot count knows mine awaits asked fits =
      let all : count ≡ count - 0 = omega arith in
      record {
        on = record {
          knows = knows;
          mine = mine;
          others = λ o ne s. s;
          still = λ e. refl;
          me = refl;
          options = refl;
          sums_seat = refl;
          sums = refl;
          job = refl;
          ended = refl;
          stopped = refl;
          asked = refl;
          tried = refl;
          here = refl;
          halted = refl;
          knows_halt = refl;
          lost = λ l. l;
          awaits = awaits;
        };
        left = asked;
        went = λ found. subst (λ (m : ℕ). SoFar log shows tells seats r p r p [] lot lot count m) all (record {
          had = found;
          answers = [];
          are = refl;
          shares = refl;
          drawn = refl;
          fits = fits;
          oldest = refl;
          batches = refl;
          told = refl;
          kept = kept_none r.options.trace r.book.events.items;
          share = refl;
        });
      }

  so_far_more : (r : Rank J S T) (p : P) (r1 : Rank J S T) (p1 : P) (r2 : Rank J S T) (p2 : P) (asks : List ℕ) (lot lot1 lot2 : Lot)
      (k count m share : ℕ) (d : Lcg)
      → k < length asks → r1.me ≡ r.me → r1.options ≡ r.options → r2.draws ≡ d
      → (amounts_of lot1 (suc m) r1.draws).0 ≡ share ∷ (amounts_of lot2 m d).0
      → (amounts_of lot1 (suc m) r1.draws).1 ≡ (amounts_of lot2 m d).1 → ((q : ℕ) → Fits lot1 (suc m) (q + share) → Fits lot2 m q)
      → r2.book.lost ≡ false → Gave log shows tells seats (get_or asks k 0) share (record r1 { draws = d }) p1 r2 p2
      → SoFar log shows tells seats r p r1 p1 (take k asks) lot lot1 count (suc m) → SoFar log shows tells seats r p r2 p2 (take (k + 1) asks) lot lot2 count m
  so_far_more r p r1 p1 r2 p2 asks lot lot1 lot2 k count m share d room me options draws first drawn fits found gave old =
      let to : ℕ = get_or asks k 0 in
      let x : ℕ × Strings = (to, gave.batch) in
      let one : List (ℕ × Strings) = x ∷ [] in
      let es : List Event = events_of r.me (served old.answers) in
      let e : Event = event_of r.me (answer_of x) in
      let more : k + 1 ≡ suc k = omega arith in
      let trace : r1.options.trace ≡ r.options.trace = ap (λ (o : Options). o.trace) options in
      let events : events_of r.me (served (old.answers ++ one)) ≡ es ++ e ∷ [] =
      map-append (λ (y : ℕ × Strings). event_of r.me (answer_of y)) old.answers one in
      let deeds : map answer_of (old.answers ++ one) ≡ map answer_of old.answers ++ answer_of x ∷ [] = map-append answer_of old.answers one in
      let strings : flat_map (λ (y : ℕ × Strings). y.1) (old.answers ++ one) ≡ flat_map (λ (y : ℕ × Strings). y.1) old.answers ++ gave.batch =
      flat_map-append (λ (y : ℕ × Strings). y.1) old.answers one
      ∙ ap (λ (q : Strings). flat_map (λ (y : ℕ × Strings). y.1) old.answers ++ q) (append-nil gave.batch) in
      let lengths : map (λ (y : ℕ × Strings). length y.1) (old.answers ++ one) ≡ map (λ (y : ℕ × Strings). length y.1) old.answers ++ share ∷ [] =
      map-append (λ (y : ℕ × Strings). length y.1) old.answers one ∙ ap (λ (n : ℕ). map (λ (y : ℕ × Strings). length y.1) old.answers ++ n ∷ []) gave.amount in
      record {
        had = old.had;
        answers = old.answers ++ one;
        are = map-append (λ (y : ℕ × Strings). y.0) old.answers one ∙ ap (λ (xs : List ℕ). xs ++ to ∷ []) old.are
            ∙ sym (take-suc asks k 0 room) ∙ ap (λ (i : ℕ). take i asks) (sym more);
        shares = old.shares ∙ ap (λ (xs : List ℕ). map (λ (y : ℕ × Strings). length y.1) old.answers ++ xs) first
            ∙ sym (append_assoc (map (λ (y : ℕ × Strings). length y.1) old.answers) (share ∷ []) (amounts_of lot2 m d).0)
            ∙ ap (λ (xs : List ℕ). xs ++ (amounts_of lot2 m d).0) (sym lengths)
            ∙ ap (λ (f : Lcg). map (λ (y : ℕ × Strings). length y.1) (old.answers ++ one) ++ (amounts_of lot2 m f).0) (sym draws);
        drawn = old.drawn ∙ drawn ∙ ap (λ (f : Lcg). (amounts_of lot2 m f).1) (sym draws);
        fits = fits (length r2.queue)
            (let all : length r1.queue ≡ length r2.queue + share =
            (let h : length r1.queue ≡ length gave.batch + length r2.queue = ap length gave.oldest ∙ length-append gave.batch r2.queue in
            let a = gave.amount in omega arith) in subst (Fits lot1 (suc m)) all old.fits);
        oldest = old.oldest ∙ ap (λ (q : Strings). flat_map (λ (y : ℕ × Strings). y.1) old.answers ++ q) gave.oldest
            ∙ sym (append_assoc (flat_map (λ (y : ℕ × Strings). y.1) old.answers) gave.batch r2.queue) ∙ ap (λ (q : Strings). q ++ r2.queue) (sym strings);
        batches = gave.batches ∙ ap (batches_after (answer_of x)) old.batches
            ∙ sym (batches_push (map answer_of old.answers) (answer_of x) (shows r.seat).batches)
            ∙ ap (λ (ds : List Deed). batches_after_all ds (shows r.seat).batches) (sym deeds);
        told = subst (λ (ds : List Deed). TellsAll r.me ds (tells p) (tells p2)) (sym deeds)
            (told_push r.me (map answer_of old.answers) (answer_of x) (tells p) (tells p1) (tells p2) old.told
            (subst (λ (i : ℕ). Tells i (answer_of x) (tells p1) (tells p2)) me gave.told));
        kept = gave.writes.kept found
            ∙ ap (λ (xs : List Event). xs ++ (if r1.options.trace then event_of r1.me (answer_of x) ∷ [] else [])) old.kept
            ∙ append_assoc r.book.events.items (if r.options.trace then es else []) (if r1.options.trace then event_of r1.me (answer_of x) ∷ [] else [])
            ∙ ap (λ (t : Bool). r.book.events.items ++ ((if r.options.trace then es else []) ++ (if t then event_of r1.me (answer_of x) ∷ [] else []))) trace
            ∙ ap (λ (i : ℕ). r.book.events.items ++
            ((if r.options.trace then es else []) ++ (if r.options.trace then event_of i (answer_of x) ∷ [] else []))) me
            ∙ ap (λ (xs : List Event). r.book.events.items ++ xs) (sym (kept_then r.options.trace es (e ∷ [])))
            ∙ ap (λ (xs : List Event). r.book.events.items ++ (if r.options.trace then xs else [])) (sym events);
        share = gave.writes.share found
            ∙ ap (λ (i : ℕ). counted (event_of i (answer_of x) ∷ []) r1.book.share) me
            ∙ ap (λ (s : Share). counted (e ∷ []) s) old.share
            ∙ sym (counted_then es (e ∷ []) r.book.share)
            ∙ ap (λ (xs : List Event). counted xs r.book.share) (sym events);
      }

  pub serving_more : (r : Rank J S T) (p : P) (r1 : Rank J S T) (p1 : P) (r2 : Rank J S T) (p2 : P) (asks : List ℕ) (lot lot1 lot2 : Lot)
      (k count share : ℕ) (d : Lcg)
      → k < count → count ≤ length asks
      → ((m : ℕ) → (amounts_of lot1 (suc m) r1.draws).0 ≡ share ∷ (amounts_of lot2 m d).0)
      → ((m : ℕ) → (amounts_of lot1 (suc m) r1.draws).1 ≡ (amounts_of lot2 m d).1)
      → ((m q : ℕ) → Fits lot1 (suc m) q → (share ≡ 0) ⊎ (share < q)) → ((m q : ℕ) → Fits lot1 (suc m) (q + share) → Fits lot2 m q)
      → Answered log shows tells seats (get_or asks k 0) share (record r1 { draws = d }) p1 r2 p2
      → Serving log shows tells seats r p r1 p1 asks lot lot1 k count → Serving log shows tells seats r p r2 p2 asks lot lot2 (k + 1) count
  serving_more r p r1 p1 r2 p2 asks lot lot1 lot2 k count share d more room first drawn less fits answered old =
      let a = answered.on in
      let b = old.on in
      let m : ℕ = count - (k + 1) in
      let next : count - k ≡ suc m = omega arith in
      record {
        on = record {
          knows = a.knows;
          mine = a.mine;
          others = λ o ne s. a.others o (λ e. ne (e ∙ b.me)) (b.others o ne s);
          still = still_then tells p p1 p2 b.still a.still;
          me = a.me ∙ b.me;
          options = a.options ∙ b.options;
          sums_seat = a.sums_seat ∙ b.sums_seat;
          sums = a.sums ∙ b.sums;
          job = a.job ∙ b.job;
          ended = a.ended ∙ b.ended;
          stopped = a.stopped ∙ b.stopped;
          asked = a.asked ∙ b.asked;
          tried = a.tried ∙ b.tried;
          here = a.here ∙ b.here;
          halted = a.halted ∙ b.halted;
          knows_halt = a.knows_halt ∙ b.knows_halt;
          lost = λ l. a.lost (b.lost l);
          awaits = a.awaits;
        };
        left = asks_less (shows r1.seat) (shows r2.seat) asks k count answered.serves more old.left;
        went = λ found.
            let before : r1.book.lost ≡ false = false_from_ne_true r1.book.lost (λ l. true_not_false r2.book.lost (a.lost l) found) in
            let far : SoFar log shows tells seats r p r1 p1 (take k asks) lot lot1 count (suc m) =
            subst (λ (i : ℕ). SoFar log shows tells seats r p r1 p1 (take k asks) lot lot1 count i) next (old.went before) in
            so_far_more r p r1 p1 r2 p2 asks lot lot1 lot2 k count m share d (omega arith) b.me b.options answered.draws (first m) (drawn m)
            (λ q. fits m q) found (answered.went found (less m (length r1.queue) far.fits)) far;
      }

names_of : (answers : List (ℕ × Strings)) (asks : List ℕ) (count n : ℕ) → map (λ (y : ℕ × Strings). y.0) answers ≡ take count asks
    → length answers ≡ count → ((j : ℕ) → j < count → get_or asks j 0 < n) → All (λ (y : ℕ × Strings). y.0 < n) answers
names_of answers asks count n are total below k d h =
    let e : get_or asks k 0 ≡ (get_or answers k d).0 =
    sym (get_or-take count asks k 0 (omega arith)) ∙ ap (λ (xs : List ℕ). get_or xs k 0) (sym are) ∙ get_or-map (λ (y : ℕ × Strings). y.0) answers k d 0 h
    in
    subst (λ (v : ℕ). v < n) e (below k (omega arith))

no_zero : (n k : ℕ) → ◌≡◌ {A = ℕ} (get_or (replicate n 0) k 0) 0
no_zero zero k = refl
no_zero (suc n) zero = refl
no_zero (suc n) (suc k) = no_zero n k

all_refused : (answers : List (ℕ × Strings)) (n : ℕ) → map (λ (y : ℕ × Strings). length y.1) answers ≡ replicate n 0
    → All (λ (y : ℕ × Strings). y.1 ≡ []) answers
all_refused answers n e k d h = nil_from_length (get_or answers k d).1
    (sym (get_or-map (λ (y : ℕ × Strings). length y.1) answers k d 0 h) ∙ ap (λ (xs : List ℕ). get_or xs k 0) e ∙ no_zero n k)

-- what a service shares out: the amounts of the split, or nothing
pub record Shares (gives : Bool) (o : Options) (told : Option Told) (lot : Lot) (queued count : ℕ) : Type 0 where
  pub by_split : gives ≡ true → (from : Lcg) → amounts_of lot count from ≡ amounts o.split queued count from
  pub nothing : gives ≡ false → lot ≡ Same 0
  pub refuses : gives ≡ false → (o.stop_after ≢ None) × IsHalted told

module _ {J S T P Q : Type 0} (log : J → Log) (plain : J → Q) (shows : S → Shown) (tells : P → Option Told) (seats : P → S → Type 0) where
  -- what was done from one rank on was done from another that is as much
  went_from : (A : List Move → Type 0) (r0 : Rank J S T) (p0 : P) (r : Rank J S T) (p : P) (r1 : Rank J S T) (p1 : P) → r.me ≡ r0.me
      → r.options ≡ r0.options → r.book ≡ r0.book
      → side log plain shows tells seats r p ≡ side log plain shows tells seats r0 p0 → Went log plain shows tells seats A r p r1 p1
      → Went log plain shows tells seats A r0 p0 r1 p1
  went_from A r0 p0 r p r1 p1 me options book same w =
      let last : Side = side log plain shows tells seats r1 p1 in
      record {
        had = sym (ap (λ (b : Book). b.lost) book) ∙ w.had;
        moves = w.moves;
        are = w.are;
        does = subst (λ (s : Side). DoesAll r0.options r0.me w.moves s last) same
            (subst (λ (k : ℕ). DoesAll r0.options k w.moves (side log plain shows tells seats r p) last) me
            (subst (λ (o : Options). DoesAll o r.me w.moves (side log plain shows tells seats r p) last) options w.does));
        kept = w.kept
            ∙ ap (λ (b : Book). b.events.items ++ (if r.options.trace then flat_map (events_of r.me) w.moves else [])) book
            ∙ ap (λ (o : Options). r0.book.events.items ++ (if o.trace then flat_map (events_of r.me) w.moves else [])) options
            ∙ ap (λ (k : ℕ). r0.book.events.items ++ (if r0.options.trace then flat_map (events_of k) w.moves else [])) me;
        share = w.share
            ∙ ap (λ (b : Book). counted (flat_map (events_of r.me) w.moves) b.share) book
            ∙ ap (λ (k : ℕ). counted (flat_map (events_of k) w.moves) r0.book.share) me;
      }

  went_served : (gives b : Bool) (r : Rank J S T) (p : P) (r1 : Rank J S T) (p1 : P) (asks : List ℕ) (lot lot1 : Lot) (count m : ℕ)
      → (b ≡ false → count ≡ 0) → (b ≡ true → 0 < count) → m ≡ 0 → count ≤ length asks
      → Shares gives r.options (tells p) lot (length r.queue) count
      → AreAskers r.me (tells p) (take count asks) → ((j : ℕ) → j < count → get_or asks j 0 < r.options.ranks) → r1.job ≡ r.job
      → SoFar log shows tells seats r p r1 p1 (take count asks) lot lot1 count m → Went log plain shows tells seats (Served gives b) r p r1 p1
  went_served gives b r p r1 p1 asks lot lot1 count m none some done room shares askers below job far =
      let total : length far.answers ≡ count = sym (length-map far.answers (λ (y : ℕ × Strings). y.0)) ∙ ap length far.are ∙ length-take-le count asks room in
      let rest : amounts_of lot1 m r1.draws ≡ ([], r1.draws) = ap (λ (i : ℕ). amounts_of lot1 i r1.draws) done ∙ none_more lot1 r1.draws in
      let lengths : List ℕ = map (λ (y : ℕ × Strings). length y.1) far.answers in
      let lengths_are : lengths ≡ (amounts_of lot count r.draws).0 =
      sym (append-nil lengths) ∙ ap (λ (x : List ℕ × Lcg). lengths ++ x.0) (sym rest) ∙ sym far.shares in
      let drawn : r1.draws ≡ (amounts_of lot count r.draws).1 = ap (λ (x : List ℕ × Lcg). x.1) (sym rest) ∙ sym far.drawn in
      let refused : gives ≡ false → All (λ (y : ℕ × Strings). y.1 ≡ []) far.answers =
      λ no. all_refused far.answers count (lengths_are ∙ ap (λ (l : Lot). (amounts_of l count r.draws).0) (shares.nothing no)) in
      let all : gives ≡ true → amounts r.options.split (length r.queue) (length far.answers) r.draws ≡ amounts_of lot count r.draws =
      λ yes. ap (λ (i : ℕ). amounts r.options.split (length r.queue) i r.draws) total ∙ sym (shares.by_split yes r.draws) in
      let events : flat_map (events_of r.me) (served far.answers ∷ []) ≡ events_of r.me (served far.answers) =
      append-nil (events_of r.me (served far.answers)) in
      record {
        had = far.had;
        moves = served far.answers ∷ [];
        are = record {
          answers = far.answers;
          are = refl;
          none = λ e. nil_from_length far.answers (total ∙ none e);
          any = λ e. (let h = some e in omega (arith, h, total));
          refused = refused;
        };
        does = (
          side log plain shows tells seats r1 p1,
          record {
            ranks = subst (AreAskers r.me (tells p)) (sym far.are) askers;
            names = names_of far.answers asks count r.options.ranks far.are total below;
            shares = elim gives as
                (λ (g : Bool). gives ≡ g → IsShared r.options (tells p) far.answers r.queue r.draws r1.draws) [
                  | true ↦ λ yes. inl (
                    lengths_are ∙ ap (λ (x : List ℕ × Lcg). x.0) (sym (all yes)),
                    drawn ∙ ap (λ (x : List ℕ × Lcg). x.1) (sym (all yes)),
                  )
                  | false ↦ λ no. inr (
                    (shares.refuses no).0,
                    (shares.refuses no).1,
                    refused no,
                    drawn ∙ ap (λ (l : Lot). (amounts_of l count r.draws).1) (shares.nothing no),
                  )
                ] refl;
            oldest = far.oldest;
            log = ap log job;
            batches = far.batches;
            told = far.told;
          },
          refl,
        );
        kept = far.kept ∙ ap (λ (xs : List Event). r.book.events.items ++ (if r.options.trace then xs else [])) (sym events);
        share = far.share ∙ ap (λ (xs : List Event). counted xs r.book.share) (sym events);
      }

  pub came_served : (gives b : Bool) (r0 : Rank J S T) (p0 : P) (r : Rank J S T) (p : P) (r1 : Rank J S T) (p1 : P) (asks : List ℕ)
      (lot lot1 : Lot) (k count : ℕ) → (b ≡ false → count ≡ 0) → (b ≡ true → 0 < count) → k ≡ count → count ≤ length asks
      → Shares gives r.options (tells p) lot (length r.queue) count → AreAskers r0.me (tells p) (take count asks)
      → Taken log shows tells seats r0 p0 r p asks count → Serving log shows tells seats r p r1 p1 asks lot lot1 k count
      → Came log plain shows tells seats (Served gives b) r0 p0 r1 p1
  came_served gives b r0 p0 r p r1 p1 asks lot lot1 k count none some done room shares askers taken serving =
      let on = serving.on in
      let me : r.me ≡ r0.me = ap (λ (x : Rank J S T). x.me) taken.rest in
      let options : r.options ≡ r0.options = ap (λ (x : Rank J S T). x.options) taken.rest in
      let book : r.book ≡ r0.book = ap (λ (x : Rank J S T). x.book) taken.rest in
      let job : r.job ≡ r0.job = ap (λ (x : Rank J S T). x.job) taken.rest in
      record {
        knows = on.knows;
        mine = on.mine;
        none = none_left (shows r1.seat) asks k count serving.left (omega arith);
        others = λ o ne s. on.others o (λ e. ne (e ∙ me)) (taken.others o ne s);
        still = still_then tells p0 p p1 taken.still on.still;
        me = on.me ∙ me;
        options = on.options ∙ options;
        sums_seat = on.sums_seat ∙ ap (λ (x : Rank J S T). x.sums_seat) taken.rest;
        sums = on.sums ∙ ap (λ (x : Book). x.sums) book;
        facts = ap plain (on.job ∙ job);
        lost = λ l. on.lost (ap (λ (x : Book). x.lost) book ∙ l);
        went = λ found. went_from (Served gives b) r0 p0 r p r1 p1 me options book
            (side_as log plain shows tells seats r0 p0 r p (ap (λ (x : Rank J S T). x.queue) taken.rest) (ap log job)
            (ap (λ (x : Rank J S T). x.draws) taken.rest) taken.batches taken.told)
            (went_served gives b r p r1 p1 asks lot lot1 count (count - k) none some (omega arith) room shares
            (subst (λ (i : ℕ). AreAskers i (tells p) (take count asks)) (sym me) askers)
            (λ j h. (let w = taken.knows.wide in
            let b = in_list (shows r.seat).serves (get_or asks j 0) (taken.asked.served j (omega arith) h) in omega arith)) on.job
            (subst (λ (i : ℕ). SoFar log shows tells seats r p r1 p1 (take i asks) lot lot1 count (count - k)) done (serving.went found)));
      }
