-- Ranks that came back from threads.
use Rattle.circle_run.proofs.Prelude.{◌≡◌, ℕ, ◌+◌, ◌<◌, sym, subst, ap, ◌∙◌, arith, Bool, true, false, List, [], ◌++◌, length, length-append, get_or, All, IfOk}
use Rattle.circle_run.proofs.Prelude.{Result, Ok, Err, sum_by, get_or_default, get_or_append_left, get_or-append-add, All-append, Shown, SumShown, Log}
use Rattle.circle_run.proofs.Prelude.{NoneLost, Placed, AllReady, Alone, Rank, IsOne, HostRan, EndOf, AreDone}
use Rattle.circle_run.proofs.Places.{same_numbers}

module _ {J S T P Q D : Type 0} (log : J → Log) (plain : J → D) (shows : S → Shown) (seats : P → S → Type 0)
    (sums_shows : T → SumShown) (sums_seats : Q → T → Type 0) where
  pub ready_of : (whole : List (Rank J S T)) (p : P) (q : Q) (xs : List (Rank J S T)) → AllReady log shows seats sums_shows sums_seats whole p q
      → All (IsOne whole) xs → AllReady log shows seats sums_shows sums_seats xs p q
  ready_of whole p q xs ready are k d h =
      let one : IsOne whole (get_or xs k d) = are k d h in
      subst (λ (r : Rank J S T). Placed log shows seats sums_shows sums_seats false r p q) one.is (ready (get_or xs k d).me (get_or xs k d) one.inside)

  pub done_of : (whole : List (Rank J S T)) (p : P) (q : Q) (before after : List (Rank J S T)) → All (IsOne whole) before
      → HostRan log plain shows seats sums_shows sums_seats p q before after → AreDone log plain shows seats sums_shows sums_seats whole p q after
  done_of whole p q before after are ran =
      let same = ran.same in
      let count : length after ≡ length before = same.count in
      let at : (k : ℕ) (d : Rank J S T) → k < length before → get_or whole (get_or after k d).me (get_or after k d) ≡ get_or before k d =
      λ k d h. (let r : Rank J S T = get_or before k d in let r' : Rank J S T = get_or after k d in let one : IsOne whole r = are k d h in
      ap (λ (m : ℕ). get_or whole m r') (same.me k d h) ∙ get_or_default whole r.me r' r one.inside ∙ one.is) in
      record {
        ends = λ k d h. (let b : k < length before = omega arith in let one : IsOne whole (get_or before k d) = are k d b in record {
          inside = subst (λ (m : ℕ). m < length whole) (sym (same.me k d b)) one.inside;
          options = same.options k d b ∙ ap (λ (x : Rank J S T). x.options) (sym (at k d b));
          facts = same.facts k d b ∙ ap (λ (x : Rank J S T). plain x.job) (sym (at k d b));
          over = ran.ended k d h;
        });
        alone = λ none k d h. (let b : k < length before = omega arith in
            subst (λ (x : Rank J S T). Alone log shows x (get_or after k d)) (sym (at k d b)) (ran.alone k d b (none k d h)));
      }

  pub done_numbers : (p : P) (q : Q) (before after : List (Rank J S T)) → HostRan log plain shows seats sums_shows sums_seats p q before after
      → (h : ℕ → ℕ) → sum_by (λ (r : Rank J S T). h r.me) after ≡ sum_by (λ (r : Rank J S T). h r.me) before
  done_numbers p q before after ran h = same_numbers h before after ran.same.count ran.same.me

  lost_left : (xs ys : List (Rank J S T)) → NoneLost (xs ++ ys) → NoneLost xs
  lost_left xs ys none k d h = ap (λ (r : Rank J S T). r.book.lost) (sym (get_or_append_left xs ys d k h)) ∙ none k d (omega (arith, length-append xs ys))

  lost_right : (xs ys : List (Rank J S T)) → NoneLost (xs ++ ys) → NoneLost ys
  lost_right xs ys none k d h = ap (λ (r : Rank J S T). r.book.lost) (sym (get_or-append-add xs ys k d))
      ∙ none (length xs + k) d (omega (arith, length-append xs ys))

  pub done_append : (whole : List (Rank J S T)) (p : P) (q : Q) (xs ys : List (Rank J S T))
      → AreDone log plain shows seats sums_shows sums_seats whole p q xs → AreDone log plain shows seats sums_shows sums_seats whole p q ys
      → AreDone log plain shows seats sums_shows sums_seats whole p q (xs ++ ys)
  done_append whole p q xs ys a b = record {
    ends = All-append (EndOf log plain shows seats sums_shows sums_seats whole p q) xs ys a.ends b.ends;
    alone = λ none. All-append (λ (r : Rank J S T). Alone log shows (get_or whole r.me r) r) xs ys (a.alone (lost_left xs ys none))
        (b.alone (lost_right xs ys none));
  }

  pub done_none : (whole : List (Rank J S T)) (p : P) (q : Q) (xs : List (Rank J S T)) → xs ≡ []
      → AreDone log plain shows seats sums_shows sums_seats whole p q xs
  done_none whole p q xs e =
      (let l : length xs ≡ 0 = ap length e in record { ends = λ k d h. absurd (omega arith); alone = λ none k d h. absurd (omega arith) })

  pub done_same : (whole : List (Rank J S T)) (p p' : P) (q q' : Q) (xs : List (Rank J S T)) → p' ≡ p → q' ≡ q
      → AreDone log plain shows seats sums_shows sums_seats whole p' q' xs → AreDone log plain shows seats sums_shows sums_seats whole p q xs
  done_same whole p p' q q' xs e f done =
      subst (λ (y : Q). AreDone log plain shows seats sums_shows sums_seats whole p y xs) f
      (subst (λ (x : P). AreDone log plain shows seats sums_shows sums_seats whole x q' xs) e done)

  -- the same, seen at another value of the same board and sums
  pub placed_as : {P' Q' : Type 0} (seats' : P' → S → Type 0) (sums_seats' : Q' → T → Type 0) (b : Bool) (r : Rank J S T) (p : P) (q : Q)
      (p' : P') (q' : Q') → ((s : S) → seats p s → seats' p' s) → ((t : T) → sums_seats q t → sums_seats' q' t)
      → Placed log shows seats sums_shows sums_seats b r p q → Placed log shows seats' sums_shows sums_seats' b r p' q'
  placed_as seats' sums_seats' b r p q p' q' f g x =
      let y = x.ready in
      let z = y.sums in
      record {
        ready = record {
          knows = y.knows;
          none = y.none;
          mine = f r.seat y.mine;
          lost = y.lost;
          bounded = λ found. (let e = y.bounded found in record { counted = e.counted; most = e.most; halts = e.halts; stops = e.stops });
          sums = record {
            mine = g r.sums_seat z.mine;
            number = z.number;
            ranks = z.ranks;
            width = z.width;
            narrow = z.narrow;
            counted = z.counted;
            progress = z.progress;
          };
        };
        over = x.over;
        going = x.going;
      }

  pub done_as : {P' Q' : Type 0} (seats' : P' → S → Type 0) (sums_seats' : Q' → T → Type 0) (whole xs : List (Rank J S T)) (p : P) (q : Q)
      (p' : P') (q' : Q') → ((s : S) → seats p s → seats' p' s) → ((t : T) → sums_seats q t → sums_seats' q' t)
      → AreDone log plain shows seats sums_shows sums_seats whole p q xs → AreDone log plain shows seats' sums_shows sums_seats' whole p' q' xs
  done_as seats' sums_seats' whole xs p q p' q' f g done = record {
    ends = λ k d h. (let e = done.ends k d h in
        record {
          inside = e.inside;
          options = e.options;
          facts = e.facts;
          over = placed_as seats' sums_seats' true (get_or xs k d) p q p' q' f g e.over;
        });
    alone = done.alone;
  }

pub ok_both : {A E : Type 0} {F G H : A → Type 0} (r : Result A E) → IfOk r F → IfOk r G → ((v : A) → F v → G v → H v) → IfOk r H
ok_both (Ok v) f g h = h v f g
ok_both (Err e) f g h = tt
