-- A rank that has done nothing is ready for its first turn.
use Rattle.circle_run.proofs.Prelude.{◌≡◌, ℕ, ◌<◌, ◌≤◌, refl, sym, subst, ap, ◌∙◌, arith, true, false, List, [], length, Option, None, Some, length-replicate}
use Rattle.circle_run.proofs.Prelude.{Shown, Batches, Strings, is_served, SumShown, Share, Log, Keeps, KeptOf, IsNew, Ready, Options, Rank, never}
use Rattle.post_board.specs.Fresh.{fresh}
use Rattle.sum_tree.specs.Plain.{fresh as fresh_sums}
use Rattle.circle_run.proofs.Bounding.{if_some}

keeps_nothing : (numbers : List ℕ) (n width me : ℕ) → numbers ≡ [] → Keeps numbers 0 (fresh_sums n width me)
keeps_nothing numbers n width me none = subst (λ (xs : List ℕ). Keeps xs 0 (fresh_sums n width me)) (sym none)
    (record { rises = tt; within = omega arith; next = omega arith; alone = λ one. (refl, tt) })

module _ {J S T P Q : Type 0} (log : J → Log) (shows : S → Shown) (seats : P → S → Type 0) (sums_shows : T → SumShown) (sums_seats : Q → T → Type 0) where
  pub ready_at_first : (job : J) (seat : S) (sums_seat : T) (queue : Strings) (o : Options) (me : ℕ) (r : Rank J S T) (p : P) (q : Q)
      (batches : Option Batches) → IsNew job seat sums_seat queue o me r → log job ≡ []
      → shows seat ≡ fresh o.ranks me batches → seats p seat → sums_shows sums_seat ≡ fresh_sums o.ranks o.width me → sums_seats q sums_seat
      → me < o.ranks → o.ranks ≤ 64 → o.width ≤ 64 → Ready log shows seats sums_shows sums_seats r p q
  ready_at_first job seat sums_seat queue o me r p q batches new unused shown mine sums_shown sums_mine inside few narrow =
      let is = new.same in
      let is_me : r.me ≡ me = ap (λ (x : Rank J S T). x.me) is in
      let options : r.options ≡ o = ap (λ (x : Rank J S T). x.options) is in
      let ranks : r.options.ranks ≡ o.ranks = ap (λ (x : Options). x.ranks) options in
      let there : r.seat ≡ seat = ap (λ (x : Rank J S T). x.seat) is in
      let s : shows r.seat ≡ fresh o.ranks me batches = ap shows there ∙ shown in
      let sum_there : r.sums_seat ≡ sums_seat = ap (λ (x : Rank J S T). x.sums_seat) is in
      let t : sums_shows r.sums_seat ≡ fresh_sums o.ranks o.width me = ap sums_shows sum_there ∙ sums_shown in
      let done : length (log r.job) ≡ 0 = ap (λ (x : Rank J S T). length (log x.job)) is ∙ ap length unused in
      record {
        knows = record {
          number = ap (λ (x : Shown). x.number) s ∙ sym is_me;
          ranks = ap (λ (x : Shown). x.n) s ∙ sym ranks;
          colour = ap (λ (x : Shown). x.colour) s ∙ sym (ap (λ (x : Rank J S T). x.colour) is);
          tried = ap (λ (x : Shown). x.tried) s ∙ sym (ap (λ (x : Rank J S T). x.tried) is);
          asked = ap (λ (x : Shown). x.asked) s ∙ sym (ap (λ (x : Rank J S T). x.asked) is);
          asks = λ v e. (let f : None ≡ Some v = sym (ap (λ (x : Rank J S T). x.asked) is) ∙ e in cc);
          ended = ap (λ (x : Shown). x.ended) s ∙ sym (ap (λ (x : Rank J S T). x.ended) is);
          stopped = ap (λ (x : Shown). x.stopped) s ∙ sym (ap (λ (x : Rank J S T). x.stopped) is);
          inside = omega (arith, inside, is_me, ranks);
          few = omega (arith, few, ranks);
          wide = ap (λ (x : Shown). length x.serves) s ∙ length-replicate o.ranks false ∙ sym ranks;
          idle = λ e. (let f : true ≡ false = sym (ap (λ (x : Shown). x.busy) s) ∙ e in cc);
          waits = λ v e. (let f : None ≡ Some v = sym (ap (λ (x : Rank J S T). x.asked) is) ∙ e in cc);
          over = λ e. (let f : true ≡ false = sym e ∙ ap (λ (x : Rank J S T). x.ended) is in cc);
          empty = ap (λ (x : Rank J S T). x.fresh) is;
        };
        none = λ k. ap (λ (x : Shown). is_served x k) s ∙ never o.ranks k;
        mine = subst (seats p) (sym there) mine;
        lost = λ l. (let f : true ≡ false = sym l ∙ new.lost in cc);
        bounded = λ found. record {
          counted = (let a : r.book.share.handled ≡ 0 = ap (λ (x : Share). x.handled) new.share in omega (arith, a, done));
          most = if_some r.options.stop_after (λ k. length (log r.job) ≤ k) (λ k e. omega (arith, done));
          halts = λ e. (let f : true ≡ false = sym e ∙ ap (λ (x : Shown). x.halted) s in cc);
          stops = λ e. (let f : true ≡ false = sym e ∙ ap (λ (x : Rank J S T). x.stopped) is in cc);
        };
        sums = record {
          mine = subst (sums_seats q) (sym sum_there) sums_mine;
          number = ap (λ (x : SumShown). x.number) t ∙ sym is_me;
          ranks = ap (λ (x : SumShown). x.n) t ∙ sym ranks;
          width = ap (λ (x : SumShown). x.width) t ∙ ap (λ (x : Options). x.width) (sym options);
          narrow = subst (λ (x : Options). x.width ≤ 64) (sym options) narrow;
          counted = λ found. (let c : (sums_shows r.sums_seat).count ≡ 0 = ap (λ (x : SumShown). x.count) t in omega (arith, c, done));
          progress = λ found. record {
            first = λ z. subst (λ (x : SumShown). KeptOf x.answer r.book.sums.items x) (sym t) (keeps_nothing r.book.sums.items o.ranks o.width me new.sums);
            rest = λ ne. new.sums;
          };
        };
      }

module _ {J S T : Type 0} where
  -- a new rank by what it has
  pub new_own : (job : J) (seat : S) (sums_seat : T) (queue : Strings) (o : Options) (me k : ℕ) (r : Rank J S T) → me ≡ k
      → IsNew job seat sums_seat queue o me r → IsNew r.job r.seat r.sums_seat r.queue o k r
  new_own job seat sums_seat queue o me k r at new =
      let is = new.same in
      let a = subst (λ (n : ℕ). IsNew job seat sums_seat queue o n r) at new in
      let b = subst (λ (x : J). IsNew x seat sums_seat queue o k r) (sym (ap (λ (x : Rank J S T). x.job) is)) a in
      let c = subst (λ (x : S). IsNew r.job x sums_seat queue o k r) (sym (ap (λ (x : Rank J S T). x.seat) is)) b in
      let d = subst (λ (x : T). IsNew r.job r.seat x queue o k r) (sym (ap (λ (x : Rank J S T). x.sums_seat) is)) c in
      subst (λ (x : Strings). IsNew r.job r.seat r.sums_seat x o k r) (sym (ap (λ (x : Rank J S T). x.queue) is)) d
