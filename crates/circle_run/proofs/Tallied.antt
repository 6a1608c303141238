-- What a rank counts and keeps of progress, turn by turn.
use Rattle.circle_run.proofs.Prelude.{◌≡◌, ◌≢◌, ℕ, ◌+◌, ◌<◌, ◌≤◌, refl, sym, subst, ap, ◌∙◌, arith, Bool, true, false, List, [], ◌∷◌, ◌++◌, length, Option}
use Rattle.circle_run.proofs.Prelude.{None, dite, dec_le, Shown, is_served, Told, SumShown, IsLeaf, Log, Rises, Thousands, newest, Keeps, KeptOf, Progress}
use Rattle.circle_run.proofs.Prelude.{Counts, DoesAll, Came, Ready, SumsReady, Turned, IsTurn, is_due, is_done, turn_of, tallied, Works, Did, Handled, Acted}
use Rattle.circle_run.proofs.Prelude.{Waited, Stopped, Book, Options, Turn, Rank, false_from_ne_true}
use Rattle.circle_run.specs.Ranks.{side}
use Rattle.circle_run.proofs.Numbers.{newest_push, rises_push, thousands_push}
use Rattle.circle_run.proofs.Asked.{true_not_false}
use Rattle.circle_run.proofs.Stepped.{kept_none, side_as}
use Rattle.circle_run.proofs.Bounding.{bounded_as}
use Rattle.circle_run.proofs.Choosing.{chooses_as}

-- a word that rose is kept where it is far enough above the last number
pub keeps_more : (numbers numbers' : List ℕ) (s s' : SumShown) → s'.n ≡ s.n → Keeps numbers s.word s → s.word ≤ s'.word
    → (s.n ≡ 1 → s'.word ≡ s'.count) → s'.count ≤ s.count + 1
    → (newest 0 numbers + 1000 ≤ s'.word → numbers' ≡ numbers ++ s'.word ∷ []) → (s'.word < newest 0 numbers + 1000 → numbers' ≡ numbers)
    → Keeps numbers' s'.word s'
keeps_more numbers numbers' s s' n old rises leaf slow more few =
    dite (dec_le (newest 0 numbers + 1000) s'.word)
    (λ high.
    let are : numbers' ≡ numbers ++ s'.word ∷ [] = more high in
    let last : newest 0 numbers' ≡ s'.word = ap (newest 0) are ∙ newest_push 0 numbers s'.word in
    record {
      rises = subst (Rises 0) (sym are) (rises_push 0 numbers s'.word old.rises high);
      within = omega (arith, last);
      next = omega (arith, last);
      alone = λ one.
          let was = old.alone (sym n ∙ one) in
          let count : s.word ≡ s.count = was.0 in
          let is : s'.word ≡ s'.count = leaf (sym n ∙ one) in
          let before = old.next in
          (is, subst (Thousands 0) (sym are) (thousands_push 0 numbers s'.word was.1 (omega arith)));
    })
    (λ low.
    let are : numbers' ≡ numbers = few (omega arith) in
    let last : newest 0 numbers' ≡ newest 0 numbers = ap (newest 0) are in
    let within = old.within in
    record {
      rises = subst (Rises 0) (sym are) old.rises;
      within = omega (arith, last);
      next = omega (arith, last);
      alone = λ one. (leaf (sym n ∙ one), subst (Thousands 0) (sym are) (old.alone (sym n ∙ one)).1);
    })

kept_of : (numbers : List ℕ) (s : SumShown) → s.answer ≡ None → Keeps numbers s.word s → KeptOf s.answer numbers s
kept_of numbers s e keeps = subst (λ (o : Option ℕ). KeptOf o numbers s) (sym e) keeps

keeps_of : (numbers : List ℕ) (s : SumShown) → s.answer ≡ None → KeptOf s.answer numbers s → Keeps numbers s.word s
keeps_of numbers s e kept = subst (λ (o : Option ℕ). KeptOf o numbers s) e kept

-- the same for the rank with this number
progress_more : (me : ℕ) (numbers numbers' : List ℕ) (s s' : SumShown) → s.answer ≡ None → s'.answer ≡ None → s'.n ≡ s.n
    → Progress me numbers s → s.word ≤ s'.word → (s.n ≡ 1 → s'.word ≡ s'.count) → s'.count ≤ s.count + 1
    → (me ≡ 0 → newest 0 numbers + 1000 ≤ s'.word → numbers' ≡ numbers ++ s'.word ∷ [])
    → (me ≡ 0 → s'.word < newest 0 numbers + 1000 → numbers' ≡ numbers) → (me ≢ 0 → numbers' ≡ numbers) → Progress me numbers' s'
progress_more me numbers numbers' s s' unended unended' n old rises leaf slow more few rest = record {
  first = λ z. kept_of numbers' s' unended' (keeps_more numbers numbers' s s' n (keeps_of numbers s unended (old.first z)) rises leaf slow (more z) (few z));
  rest = λ ne. rest ne ∙ old.rest ne;
}

module _ {J S T Q : Type 0} (shows : T → SumShown) (seats : Q → T → Type 0) where
  -- a rank counted so many strings more, one or none, and showed its count
  pub tallied_more : (strings strings' : ℕ) (r r' : Rank J S T) (q q' : Q) → (shows r.sums_seat).answer ≡ None
      → r' ≡ record r { sums_seat = r'.sums_seat; book = r'.book } → (r.book.lost ≡ true → r'.book.lost ≡ true) → seats q' r'.sums_seat
      → (shows r'.sums_seat).number ≡ (shows r.sums_seat).number → (shows r'.sums_seat).n ≡ (shows r.sums_seat).n
      → (shows r'.sums_seat).width ≡ (shows r.sums_seat).width → (shows r'.sums_seat).answer ≡ None
      → (shows r'.sums_seat).count ≤ (shows r.sums_seat).count + 1 → (Counts strings (shows r.sums_seat) → Counts strings' (shows r'.sums_seat))
      → (shows r.sums_seat).word ≤ (shows r'.sums_seat).word → (IsLeaf (shows r.sums_seat) → (shows r'.sums_seat).word ≡ (shows r'.sums_seat).count)
      → (r.me ≡ 0 → r'.book.lost ≡ false → newest 0 r.book.sums.items + 1000 ≤ (shows r'.sums_seat).word
      → r'.book.sums.items ≡ r.book.sums.items ++ (shows r'.sums_seat).word ∷ [])
      → (r.me ≡ 0 → r'.book.lost ≡ false → (shows r'.sums_seat).word < newest 0 r.book.sums.items + 1000 → r'.book.sums.items ≡ r.book.sums.items)
      → (r.me ≢ 0 → r'.book ≡ r.book)
      → SumsReady shows seats strings r q → SumsReady shows seats strings' r' q'
  tallied_more strings strings' r r' q q' unended same lost mine number n width unended' slow counts rises leaf keeps passes rest old =
      let me : r'.me ≡ r.me = ap (λ (x : Rank J S T). x.me) same in
      let options : r'.options ≡ r.options = ap (λ (x : Rank J S T). x.options) same in
      let had : r'.book.lost ≡ false → r.book.lost ≡ false = λ found. false_from_ne_true r.book.lost (λ l. true_not_false r'.book.lost (lost l) found) in
      record {
        mine = mine;
        number = number ∙ old.number ∙ sym me;
        ranks = n ∙ old.ranks ∙ ap (λ (o : Options). o.ranks) (sym options);
        width = width ∙ old.width ∙ ap (λ (o : Options). o.width) (sym options);
        narrow = subst (λ (o : Options). o.width ≤ 64) (sym options) old.narrow;
        counted = λ found. counts (old.counted (had found));
        progress = λ found. subst (λ (k : ℕ). Progress k r'.book.sums.items (shows r'.sums_seat)) (sym me)
            (progress_more r.me r.book.sums.items r'.book.sums.items (shows r.sums_seat) (shows r'.sums_seat) unended unended' n
            (old.progress (had found)) rises
            (λ one. leaf (omega (arith, one))) slow
            (λ z. keeps z found) (λ z. passes z found) (λ ne. ap (λ (b : Book). b.sums.items) (rest ne)));
      }

pub none_tallied : (done : Did) (strings : ℕ) → done ≢ Handled → tallied done strings ≡ strings
none_tallied Handled strings ne = absurd (ne refl)
none_tallied Acted strings ne = refl
none_tallied Waited strings ne = refl
none_tallied Stopped strings ne = refl

module _ {J S T P D : Type 0} (log : J → Log) (heard : J → Option (List ℕ)) (plain : J → D) (shows : S → Shown) (tells : P → Option Told)
    (seats : P → S → Type 0) where
  -- a turn before the rank is done
  pub turned : (done : Did) (turn : Turn) (r : Rank J S T) (p : P) (r1 : Rank J S T) (p1 : P) (r2 : Rank J S T) (queue : List (List ℕ))
      → turn ≡ turn_of done → is_done r ≡ false → Came log plain shows tells seats (Works heard shows tells done r p r1) r p r1 p1
      → r2 ≡ record r1 { sums_seat = r2.sums_seat; book = r2.book } → r2.book ≡ record r1.book { sums = r2.book.sums; lost = r2.book.lost }
      → (r1.book.lost ≡ true → r2.book.lost ≡ true) → (r2.book.lost ≡ false → queue ≡ r2.queue)
      → Turned log heard plain shows tells seats turn r p (record r2 { queue = queue }) p1
  turned done turn r p r1 p1 r2 queue is live came same book lost kept =
      record {
        me = ap (λ (x : Rank J S T). x.me) same ∙ came.me;
        options = ap (λ (x : Rank J S T). x.options) same ∙ came.options;
        facts = ap (λ (x : Rank J S T). plain x.job) same ∙ came.facts;
        still = came.still;
        lost = λ l. lost (came.lost l);
        went = λ found.
            let w = came.went (false_from_ne_true r1.book.lost (λ l. true_not_false r2.book.lost (lost l) found)) in
            let q : queue ≡ r1.queue = kept found ∙ ap (λ (x : Rank J S T). x.queue) same in
            let j : r2.job ≡ r1.job = ap (λ (x : Rank J S T). x.job) same in
            let d : r2.draws ≡ r1.draws = ap (λ (x : Rank J S T). x.draws) same in
            let s : r2.seat ≡ r1.seat = ap (λ (x : Rank J S T). x.seat) same in
            let sides : side log plain shows tells seats (record r2 { queue = queue }) p1 ≡ side log plain shows tells seats r1 p1 = cc in
            record {
              had = w.had;
              moves = w.moves;
              are = record {
                kind = subst (λ (t : Turn). IsTurn (is_done r) t w.moves) (sym is)
                    (subst (λ (b : Bool). IsTurn b (turn_of done) w.moves) (sym live) w.are.kind);
                chosen = λ going.
                    chooses_as log heard plain shows tells seats r p r1 (record r2 { queue = queue }) w.moves s
                    (ap (λ (x : Rank J S T). x.ended) same) j
                    (ap (λ (x : Rank J S T). is_due x.options.stop_after r2.book.share.handled) same
                    ∙ ap (λ (b : Book). is_due r1.options.stop_after b.share.handled) book) w.are.chosen;
              };
              does = subst (DoesAll r.options r.me w.moves (side log plain shows tells seats r p)) (sym sides) w.does;
              kept = ap (λ (b : Book). b.events.items) book ∙ w.kept;
              share = ap (λ (b : Book). b.share) book ∙ w.share;
            };
      }

  -- a turn after that
  pub turned_after : (turn : Turn) (r : Rank J S T) (p : P) (r' : Rank J S T) (queue : List (List ℕ)) → is_done r ≡ true
      → r' ≡ record r { sums_seat = r'.sums_seat; book = r'.book }
      → r'.book ≡ record r.book { sums = r'.book.sums; lost = r'.book.lost } → (r.book.lost ≡ true → r'.book.lost ≡ true)
      → (r'.book.lost ≡ false → queue ≡ r'.queue) → Turned log heard plain shows tells seats turn r p (record r' { queue = queue }) p
  turned_after turn r p r' queue ended same book lost kept =
      let job : r'.job ≡ r.job = ap (λ (x : Rank J S T). x.job) same in
      let seat : r'.seat ≡ r.seat = ap (λ (x : Rank J S T). x.seat) same in
      record {
        me = ap (λ (x : Rank J S T). x.me) same;
        options = ap (λ (x : Rank J S T). x.options) same;
        facts = ap plain job;
        still = λ e. refl;
        lost = lost;
        went = λ found. record {
          had = false_from_ne_true r.book.lost (λ l. true_not_false r'.book.lost (lost l) found);
          moves = [];
          are = record {
            kind = subst (λ (b : Bool). IsTurn b turn []) (sym ended) refl;
            chosen = λ going. absurd (true_not_false (is_done r) ended going);
          };
          does = side_as log plain shows tells seats r p (record r' { queue = queue }) p
              (kept found ∙ ap (λ (x : Rank J S T). x.queue) same) (ap log job) (ap (λ (x : Rank J S T). x.draws) same)
              (ap (λ (s : S). (shows s).batches) seat) refl;
          kept = ap (λ (b : Book). b.events.items) book ∙ kept_none r.options.trace r.book.events.items;
          share = ap (λ (b : Book). b.share) book;
        };
      }

module _ {J S T P Q : Type 0} (log : J → Log) (shows : S → Shown) (seats : P → S → Type 0) (sums_shows : T → SumShown) (sums_seats : Q → T → Type 0) where
  -- a rank that is done, after a turn
  pub ready_after : (r : Rank J S T) (p : P) (q : Q) (r' : Rank J S T) (q' : Q) (queue : List (List ℕ))
      → r' ≡ record r { sums_seat = r'.sums_seat; book = r'.book } → r'.book.share ≡ r.book.share → (r.book.lost ≡ true → r'.book.lost ≡ true)
      → (r'.book.lost ≡ true → queue ≡ []) → (r'.book.lost ≡ false → queue ≡ r'.queue)
      → SumsReady sums_shows sums_seats (length (log r.job)) r' q' → Ready log shows seats sums_shows sums_seats r p q
      → Ready log shows seats sums_shows sums_seats (record r' { queue = queue }) p q'
  ready_after r p q r' q' queue same share lost none kept sums old =
      let k = old.knows in
      let seat : r'.seat ≡ r.seat = ap (λ (x : Rank J S T). x.seat) same in
      let me : r'.me ≡ r.me = ap (λ (x : Rank J S T). x.me) same in
      let options : r'.options ≡ r.options = ap (λ (x : Rank J S T). x.options) same in
      let job : r'.job ≡ r.job = ap (λ (x : Rank J S T). x.job) same in
      let ranks : r'.options.ranks ≡ r.options.ranks = ap (λ (o : Options). o.ranks) options in
      let empty : r.queue ≡ [] → queue ≡ [] = λ e. elim r'.book.lost as (λ (b : Bool). r'.book.lost ≡ b → queue ≡ [])
      [ true ↦ λ l. none l | false ↦ λ found. kept found ∙ ap (λ (x : Rank J S T). x.queue) same ∙ e ] refl in
      let now : Rank J S T = record r' { queue = queue } in
      record {
        knows = record {
          number = ap (λ (s : S). (shows s).number) seat ∙ k.number ∙ sym me;
          ranks = ap (λ (s : S). (shows s).n) seat ∙ k.ranks ∙ sym ranks;
          colour = ap (λ (s : S). (shows s).colour) seat ∙ k.colour ∙ sym (ap (λ (x : Rank J S T). x.colour) same);
          tried = ap (λ (s : S). (shows s).tried) seat ∙ k.tried ∙ sym (ap (λ (x : Rank J S T). x.tried) same);
          asked = ap (λ (s : S). (shows s).asked) seat ∙ k.asked ∙ sym (ap (λ (x : Rank J S T). x.asked) same);
          asks = λ v e. (let h = k.asks v (sym (ap (λ (x : Rank J S T). x.asked) same) ∙ e) in omega (arith, h, ranks));
          ended = ap (λ (s : S). (shows s).ended) seat ∙ k.ended ∙ sym (ap (λ (x : Rank J S T). x.ended) same);
          stopped = ap (λ (s : S). (shows s).stopped) seat ∙ k.stopped ∙ sym (ap (λ (x : Rank J S T). x.stopped) same);
          inside = (let h = k.inside in omega (arith, h, me, ranks));
          few = (let h = k.few in omega (arith, h, ranks));
          wide = ap (λ (s : S). length (shows s).serves) seat ∙ k.wide ∙ sym ranks;
          idle = λ e. empty (k.idle (sym (ap (λ (s : S). (shows s).busy) seat) ∙ e));
          waits = λ v e. empty (k.waits v (sym (ap (λ (x : Rank J S T). x.asked) same) ∙ e));
          over = λ e. empty (k.over (sym (ap (λ (x : Rank J S T). x.ended) same) ∙ e));
          empty = ap (λ (x : Rank J S T). x.fresh) same ∙ k.empty;
        };
        none = λ i. ap (λ (s : S). is_served (shows s) i) seat ∙ old.none i;
        mine = subst (seats p) (sym seat) old.mine;
        lost = none;
        bounded = λ found. bounded_as log shows r now share job seat options (ap (λ (x : Rank J S T). x.stopped) same)
            (old.bounded (false_from_ne_true r.book.lost (λ l. true_not_false r'.book.lost (lost l) found)));
        sums = subst (λ (j : J). SumsReady sums_shows sums_seats (length (log j)) now q') (sym job) (record {
          mine = sums.mine;
          number = sums.number;
          ranks = sums.ranks;
          width = sums.width;
          narrow = sums.narrow;
          counted = sums.counted;
          progress = sums.progress;
        });
      }
