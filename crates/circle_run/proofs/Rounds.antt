-- Ranks that have their turns in rounds: what one turn keeps of all of them.
use Rattle.circle_run.proofs.Prelude.{◌≡◌, ℕ, zero, suc, ◌<◌, ◌≤◌, ◌≢◌, ⊎_elim, refl, sym, subst, ap, ◌∙◌, arith, Bool, true, false, List, [], ◌∷◌, length}
use Rattle.circle_run.proofs.Prelude.{Option, length-set, set, get_or, get_or-set_same, get_or-set_other, cases_lt, false_from_ne_true, get_or_read}
use Rattle.circle_run.proofs.Prelude.{get_or_default, dite, ℕ_discrete, Shown, Told, SumShown, Log, IsAscending, NoneLost, NoneWrote, AreAll, Same, Placed}
use Rattle.circle_run.proofs.Prelude.{AllPlaced, AllReady, AllEnded, Took, Options, Rank}
use Rattle.circle_run.proofs.Known.{knows_queue}
use Rattle.circle_run.proofs.Asked.{true_not_false}

-- the events of a rank are elsewhere
abbrev pub moved_on : {J S T : Type 0} → Rank J S T → Rank J S T → Type 0
moved_on r r' = r' ≡ record r { book = record r.book { events = r'.book.events } }

module _ {J S T : Type 0} where
  -- a rank is at this place where its reader says so
  at_place : (ranks : List (Rank J S T)) (k : ℕ) (r d : Rank J S T) → k < length ranks → r ≡ get_or ranks k r → get_or ranks k d ≡ r
  at_place ranks k r d inside is = sym (get_or_read ranks k r inside is d)

  -- what holds of each place, where it holds of the one that is written and held of the others
  pub each-set : (X : ℕ → Rank J S T → Type 0) (ranks : List (Rank J S T)) (k : ℕ) (r' : Rank J S T) → X k r'
      → ((j : ℕ) (d : Rank J S T) → j < length ranks → j ≢ k → X j (get_or ranks j d))
      → (j : ℕ) (d : Rank J S T) → j < length (set ranks k r') → X j (get_or (set ranks k r') j d)
  each-set X ranks k r' here there j d inside =
      let within : j < length ranks = subst (λ (n : ℕ). j < n) (length-set ranks k r') inside in
      dite (ℕ_discrete j k)
      (λ e. subst (λ (i : ℕ). X i (get_or (set ranks k r') i d)) (sym e)
      (subst (X k) (sym (get_or-set_same ranks k r' d (subst (λ (i : ℕ). i < length ranks) e within))) here))
      (λ ne. subst (X j) (sym (get_or-set_other ranks k j r' d ne)) (there j d within ne))

  pub lost_before : (ranks : List (Rank J S T)) (k : ℕ) (r r' : Rank J S T) → k < length ranks → r ≡ get_or ranks k r
      → (r.book.lost ≡ true → r'.book.lost ≡ true) → NoneLost (set ranks k r') → NoneLost ranks
  lost_before ranks k r r' below is lost none j d inside =
      let within : j < length (set ranks k r') = subst (λ (n : ℕ). j < n) (sym (length-set ranks k r')) inside in
      dite (ℕ_discrete j k)
      (λ e.
      let here : r'.book.lost ≡ false = ap (λ (x : Rank J S T). x.book.lost) (sym (get_or-set_same ranks k r' r' below))
      ∙ none k r' (subst (λ (n : ℕ). k < n) (sym (length-set ranks k r')) below) in
      ap (λ (i : ℕ). (get_or ranks i d).book.lost) e ∙ ap (λ (x : Rank J S T). x.book.lost) (at_place ranks k r d below is)
      ∙ false_from_ne_true r.book.lost (λ l. true_not_false r'.book.lost (lost l) here))
      (λ ne. ap (λ (x : Rank J S T). x.book.lost) (sym (get_or-set_other ranks k j r' d ne)) ∙ none j d within)

  pub lost_here : (ranks : List (Rank J S T)) (k : ℕ) (r' : Rank J S T) → k < length ranks → NoneLost (set ranks k r') → r'.book.lost ≡ false
  lost_here ranks k r' below none =
      ap (λ (x : Rank J S T). x.book.lost) (sym (get_or-set_same ranks k r' r' below))
      ∙ none k r' (subst (λ (n : ℕ). k < n) (sym (length-set ranks k r')) below)

  pub wrote_more : (ranks : List (Rank J S T)) (k : ℕ) (r1 r2 : Rank J S T) → moved_on r1 r2 → r1.book.lost ≡ false
      → r2.book.events.items ≡ [] → NoneWrote ranks → NoneWrote (set ranks k r2)
  wrote_more ranks k r1 r2 moved found none old =
      each-set (λ (j : ℕ) (x : Rank J S T). (x.book.lost ≡ false) × (x.book.events.items ≡ [])) ranks k r2
      (ap (λ (x : Rank J S T). x.book.lost) moved ∙ found, none) (λ j d below ne. old j d below)

  at_least : (ranks : List (Rank J S T)) (d : Rank J S T) → IsAscending ranks → (k : ℕ) → k < length ranks → k ≤ (get_or ranks k d).me
  at_least ranks d order zero inside = omega arith
  at_least ranks d order (suc k) inside = let below = order k (suc k) d (omega arith) inside in
      let least = at_least ranks d order k (omega arith) in omega arith

  other_number : (ranks : List (Rank J S T)) (j k : ℕ) (d : Rank J S T) → IsAscending ranks → j < length ranks → k < length ranks → j ≢ k
      → (get_or ranks j d).me ≢ (get_or ranks k d).me
  other_number ranks j k d order inside within ne same = ⊎_elim
      (λ below. (let h = order j k d below within in absurd (omega arith)))
      (λ above. (let h = order k j d (omega arith) inside in absurd (omega arith)))
      (cases_lt j k)

module _ {J S T D : Type 0} (plain : J → D) where
  same_first : (ranks : List (Rank J S T)) → Same plain ranks ranks
  same_first ranks = record { count = refl; me = λ k d h. refl; options = λ k d h. refl; facts = λ k d h. refl }

  same_order : (ranks ranks' : List (Rank J S T)) → Same plain ranks ranks' → IsAscending ranks → IsAscending ranks'
  same_order ranks ranks' same order j k d below inside =
      let n = same.count in
      subst (λ (x : ℕ). x < (get_or ranks' k d).me) (sym (same.me j d (omega arith)))
      (subst (λ (x : ℕ). (get_or ranks j d).me < x) (sym (same.me k d (omega arith))) (order j k d below (omega arith)))

  pub same_all : (o : Options) (ranks ranks' : List (Rank J S T)) → Same plain ranks ranks' → AreAll o ranks → AreAll o ranks'
  same_all o ranks ranks' same all = record {
    count = same.count ∙ all.count;
    each = λ k d inside. (let within : k < length ranks = (let n = same.count in omega arith) in
        (same.me k d within ∙ (all.each k d within).0, same.options k d within ∙ (all.each k d within).1));
  }

  same_more : (ranks0 ranks : List (Rank J S T)) (k : ℕ) (r r' : Rank J S T) → k < length ranks → r ≡ get_or ranks k r → r'.me ≡ r.me
      → r'.options ≡ r.options → plain r'.job ≡ plain r.job
      → Same plain ranks0 ranks → Same plain ranks0 (set ranks k r')
  same_more ranks0 ranks k r r' inside is me options facts same =
      let long : length (set ranks k r') ≡ length ranks0 = length-set ranks k r' ∙ same.count in
      let was : (d : Rank J S T) → get_or ranks k d ≡ r = λ d. at_place ranks k r d inside is in
      let within : (j : ℕ) → j < length ranks0 → j < length (set ranks k r') = λ j h. omega (arith, long, h) in
      let inner : (j : ℕ) → j < length ranks → j < length ranks0 = λ j h. (let n = same.count in omega (arith, n, h)) in
      record {
        count = long;
        me = λ j d h. each-set (λ (i : ℕ) (x : Rank J S T). x.me ≡ (get_or ranks0 i d).me) ranks k r'
            (me ∙ ap (λ (x : Rank J S T). x.me) (sym (was d)) ∙ same.me k d (inner k inside))
            (λ i e b ne. ap (λ (x : Rank J S T). x.me) (get_or_default ranks i e d b) ∙ same.me i d (inner i b)) j d (within j h);
        options = λ j d h. each-set (λ (i : ℕ) (x : Rank J S T). x.options ≡ (get_or ranks0 i d).options) ranks k r'
            (options ∙ ap (λ (x : Rank J S T). x.options) (sym (was d)) ∙ same.options k d (inner k inside))
            (λ i e b ne. ap (λ (x : Rank J S T). x.options) (get_or_default ranks i e d b) ∙ same.options i d (inner i b)) j d
            (within j h);
        facts = λ j d h. each-set (λ (i : ℕ) (x : Rank J S T). plain x.job ≡ plain (get_or ranks0 i d).job) ranks k r'
            (facts ∙ ap (λ (x : Rank J S T). plain x.job) (sym (was d)) ∙ same.facts k d (inner k inside))
            (λ i e b ne. ap (λ (x : Rank J S T). plain x.job) (get_or_default ranks i e d b) ∙ same.facts i d (inner i b)) j d
            (within j h);
      }

module _ {J S T P Q : Type 0} (log : J → Log) (shows : S → Shown) (seats : P → S → Type 0) (sums_shows : T → SumShown) (sums_seats : Q → T → Type 0) where
  -- a rank whose seats are still those of the board and the sums, and whose events may be elsewhere
  placed_as : (done : Bool) (r r' : Rank J S T) (p p' : P) (q q' : Q) → seats p' r.seat → sums_seats q' r.sums_seat
      → Placed log shows seats sums_shows sums_seats done r p q
      → Placed log shows seats sums_shows sums_seats done (record r { book = record r.book { events = r'.book.events } }) p' q'
  placed_as done r r' p p' q q' mine sums_mine old =
      let sums = old.ready.sums in
      record {
        ready = record {
          knows = knows_queue shows r r.queue (record r.book { events = r'.book.events }) old.ready.knows (λ e. e);
          none = old.ready.none;
          mine = mine;
          lost = old.ready.lost;
          bounded = λ found. (let b = old.ready.bounded found in record { counted = b.counted; most = b.most; halts = b.halts; stops = b.stops });
          sums = record {
            mine = sums_mine;
            number = sums.number;
            ranks = sums.ranks;
            width = sums.width;
            narrow = sums.narrow;
            counted = sums.counted;
            progress = sums.progress;
          };
        };
        over = old.over;
        going = old.going;
      }

  placed_more : (flags : List Bool) (ranks : List (Rank J S T)) (p p' : P) (q q' : Q) (k : ℕ) (r r' : Rank J S T) (done' : Bool)
      → IsAscending ranks → k < length ranks → k < length flags → r ≡ get_or ranks k r
      → ((other : S) → (shows other).number ≢ r.me → seats p other → seats p' other)
      → ((other : T) → (sums_shows other).number ≢ r.me → sums_seats q other → sums_seats q' other)
      → Placed log shows seats sums_shows sums_seats done' r' p' q' → AllPlaced log shows seats sums_shows sums_seats flags ranks p q
      → AllPlaced log shows seats sums_shows sums_seats (set flags k done') (set ranks k r') p' q'
  placed_more flags ranks p p' q q' k r r' done' order inside flagged is others sums_others new all =
      each-set (λ (j : ℕ) (x : Rank J S T). Placed log shows seats sums_shows sums_seats (get_or (set flags k done') j false) x p' q') ranks k r'
      (subst (λ (b : Bool). Placed log shows seats sums_shows sums_seats b r' p' q') (sym (get_or-set_same flags k done' false flagged)) new)
      (λ j d below ne.
      let old = all j d below in
      let away : (get_or ranks j d).me ≢ r.me =
      λ e. other_number ranks j k d order below inside ne (e ∙ ap (λ (x : Rank J S T). x.me) (sym (at_place ranks k r d inside is))) in
      subst (λ (b : Bool). Placed log shows seats sums_shows sums_seats b (get_or ranks j d) p' q') (sym (get_or-set_other flags k j done' false ne))
      (placed_as (get_or flags j false) (get_or ranks j d) (get_or ranks j d) p p' q q'
      (others (get_or ranks j d).seat (λ e. away (sym old.ready.knows.number ∙ e)) old.ready.mine)
      (sums_others (get_or ranks j d).sums_seat (λ e. away (sym old.ready.sums.number ∙ e)) old.ready.sums.mine) old))

  at_most_64 : (ranks : List (Rank J S T)) (p : P) (q : Q) → IsAscending ranks → AllReady log shows seats sums_shows sums_seats ranks p q → length ranks ≤ 64
  at_most_64 [] p q order ready = omega arith
  at_most_64 (x ∷ xs) p q order ready =
      let last = ready (length xs) x (omega arith) in
      let least = at_least (x ∷ xs) x order (length xs) (omega arith) in
      let inside = last.ready.knows.inside in
      let few = last.ready.knows.few in
      omega arith

  -- a rank whose events were taken away
  placed_moved : (done : Bool) (r r' : Rank J S T) (p : P) (q : Q) → moved_on r r'
      → Placed log shows seats sums_shows sums_seats done r p q → Placed log shows seats sums_shows sums_seats done r' p q
  placed_moved done r r' p q same old = subst (λ (x : Rank J S T). Placed log shows seats sums_shows sums_seats done x p q) (sym same)
      (placed_as done r r' p p q q old.ready.mine old.ready.sums.mine old)

module _ {J S T P Q D : Type 0} (log : J → Log) (plain : J → D) (shows : S → Shown) (tells : P → Option Told) (seats : P → S → Type 0)
    (sums_shows : T → SumShown) (sums_seats : Q → T → Type 0) where
  -- ranks in the rounds of a host, with the flags of those that are done
  pub record InRound (ranks0 ranks : List (Rank J S T)) (flags : List Bool) (p : P) (q : Q) : Type 0 where
    pub placed : AllPlaced log shows seats sums_shows sums_seats flags ranks p q
    pub wide : length flags ≡ 64
    pub few : length ranks0 ≤ 64
    pub same : Same plain ranks0 ranks

  pub round_first : (ranks : List (Rank J S T)) (flags : List Bool) (p : P) (q : Q) → length flags ≡ 64 → ((k : ℕ) → get_or flags k false ≡ false)
      → IsAscending ranks → AllReady log shows seats sums_shows sums_seats ranks p q → InRound ranks ranks flags p q
  round_first ranks flags p q wide unset order ready = record {
    placed = λ k d inside. subst (λ (b : Bool). Placed log shows seats sums_shows sums_seats b (get_or ranks k d) p q) (sym (unset k))
        (ready k d inside);
    wide = wide;
    few = at_most_64 log shows seats sums_shows sums_seats ranks p q order ready;
    same = same_first plain ranks;
  }

  -- a rank has its turn, after which its events may move away
  pub round_more : (ranks0 ranks : List (Rank J S T)) (flags : List Bool) (p p' : P) (q q' : Q) (k : ℕ) (r r' moved : Rank J S T) (done' : Bool)
      → IsAscending ranks0 → k < length ranks → r ≡ get_or ranks k r → Took log plain shows tells seats r p r' p' → moved_on r' moved
      → ((other : S) → (shows other).number ≢ r.me → seats p other → seats p' other)
      → ((other : T) → (sums_shows other).number ≢ r.me → sums_seats q other → sums_seats q' other)
      → Placed log shows seats sums_shows sums_seats done' r' p' q' → InRound ranks0 ranks flags p q
      → InRound ranks0 (set ranks k moved) (set flags k done') p' q'
  round_more ranks0 ranks flags p p' q q' k r r' moved done' order inside is took on others sums_others placed i =
      let n = i.same.count in
      let w = i.wide in
      let f = i.few in
      record {
        placed = placed_more log shows seats sums_shows sums_seats flags ranks p p' q q' k r moved done' (same_order plain ranks0 ranks i.same order)
            inside (omega arith) is others sums_others
            (placed_moved log shows seats sums_shows sums_seats done' r' moved p' q' on placed) i.placed;
        wide = length-set flags k done' ∙ i.wide;
        few = i.few;
        same = same_more plain ranks0 ranks k r moved inside is (ap (λ (x : Rank J S T). x.me) on ∙ took.me)
            (ap (λ (x : Rank J S T). x.options) on ∙ took.options) (ap (λ (x : Rank J S T). plain x.job) on ∙ took.facts) i.same;
      }

  -- a rank that was read from its place
  pub round_at : (ranks0 ranks : List (Rank J S T)) (flags : List Bool) (p : P) (q : Q) (k : ℕ) (r : Rank J S T) → k < length ranks
      → r ≡ get_or ranks k r → InRound ranks0 ranks flags p q → Placed log shows seats sums_shows sums_seats (get_or flags k false) r p q
  round_at ranks0 ranks flags p q k r inside is i =
      subst (λ (x : Rank J S T). Placed log shows seats sums_shows sums_seats (get_or flags k false) x p q) (sym is) (i.placed k r inside)

  -- each of so many flags is set
  pub round_last : (ranks0 ranks : List (Rank J S T)) (flags : List Bool) (p : P) (q : Q) (n : ℕ) → n ≡ length ranks
      → ((k : ℕ) → k < n → get_or flags k false ≡ true) → InRound ranks0 ranks flags p q
      → AllEnded log shows seats sums_shows sums_seats ranks p q
  round_last ranks0 ranks flags p q n is set i k d inside =
      subst (λ (b : Bool). Placed log shows seats sums_shows sums_seats b (get_or ranks k d) p q) (set k (omega arith)) (i.placed k d inside)
