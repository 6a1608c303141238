-- The words of children are read one after the other.
use Rattle.sum_tree.proofs.Prelude.{◌≡◌, ℕ, ◌+◌, ◌-◌, ◌*◌, ◌/◌, ◌%◌, ◌==◌, ◌^◌, ◌<◌, ◌≤◌, ◌≢◌, refl, sym, subst, ap, ◌∙◌, arith, true, min, List, [], ◌∷◌, ◌++◌}
use Rattle.sum_tree.proofs.Prelude.{length, get_or, set, get_or-set_same, get_or-set_other, length-set, append_assoc, sum_by, is_some, Bool, false, ◌&&◌}
use Rattle.sum_tree.proofs.Prelude.{eq-eqb, ne_eqb, range_with_len, list_all, append-nil, map-append, sum_by-append, sum_by-cons, All-nil, All-cons, All-append}
use Rattle.sum_tree.proofs.Prelude.{dite, ℕ_discrete, Reads, number_read, is_final_read, Reading, seen_of, below, SeatState, knowing, after_load, IsSeat}
use Rattle.sum_tree.proofs.Prelude.{Loaded, LoadedFinal, Blocked, Known, SumTree, SumSeat}
use Rattle.sum_tree.proofs.Ranges.{same_sums, less_sums, joined_ranges, joined_sums}

one_range : (a k : ℕ) → range_with_len a (k + 1) ≡ range_with_len a k ++ (a + k) ∷ []
one_range a k = joined_ranges a k 1

sum_of_one : (f : ℕ → ℕ) (x : ℕ) → sum_by f (x ∷ []) ≡ f x
sum_of_one f x = sum_by-cons f x [] ∙ omega arith

seen_grows : (w : Known) (c found : ℕ) → c < length w.seen → seen_of w c ≤ found / 2 → (e : ℕ) → seen_of w e ≤ seen_of (after_load w c found) e
seen_grows w c found inside up e = dite (ℕ_discrete e c)
    (λ q. let at : seen_of (after_load w c found) e ≡ found / 2 = ap (λ (j : ℕ). get_or (set w.seen c (found / 2)) j 0) q
    ∙ get_or-set_same w.seen c (found / 2) 0 inside in let same : seen_of w e ≡ seen_of w c = ap (seen_of w) q in omega arith)
    (λ ne. let at : seen_of (after_load w c found) e ≡ seen_of w e = get_or-set_other w.seen c e (found / 2) 0 ne in omega arith)

pub loaded_more : (v w : Known) (a k found : ℕ) (L : Loaded v (range_with_len a k) w) → a + k < length w.seen
    → (M : Loaded v (range_with_len a (k + 1)) (after_load w (a + k) found))
    × (M.loads ≡ L.loads ++ record { word = a + k; found = found; left = found } ∷ [])
loaded_more v w a k found L inside =
    let x : Reading = record { word = a + k; found = found; left = found } in
    let w' : Known = after_load w (a + k) found in
    let kept : Reading → Type 0 = λ y. y.left ≡ y.found in
    let old : sum_by (seen_of w') (range_with_len a k) ≡ sum_by (seen_of w) (range_with_len a k) =
    same_sums (seen_of w') (seen_of w) a k (λ c low high. get_or-set_other w.seen (a + k) c (found / 2) 0 (λ e. omega arith)) in
    let new : seen_of w' (a + k) ≡ found / 2 = get_or-set_same w.seen (a + k) (found / 2) 0 inside in (
      record {
        loads = L.loads ++ x ∷ [];
        read = record {
          words = map-append (λ y. y.word) L.loads (x ∷ []) ∙ ap (λ ws. ws ++ (a + k) ∷ []) L.read.words ∙ sym (one_range a k);
          kept = All-append kept L.loads (x ∷ []) L.read.kept (All-cons kept x [] refl (All-nil kept));
        };
        seen = sum_by-append number_read L.loads (x ∷ []) ∙ (let b : sum_by number_read (x ∷ []) ≡ found / 2 = sum_by-cons number_read x [] ∙ omega arith in
            let s = L.seen in let j : sum_by (seen_of w') (range_with_len a (k + 1))
            ≡ sum_by (seen_of w') (range_with_len a k) + sum_by (seen_of w') ((a + k) ∷ []) = joined_sums (seen_of w') a k 1 in
            let o = sum_of_one (seen_of w') (a + k) in omega arith);
        are = ap (λ rs. rs ++ x ∷ []) L.are ∙ append_assoc v.readings L.loads (x ∷ []);
        same = L.same;
      },
      refl,
    )

-- a part of what was read below
part_below : (w : Known) (k : ℕ) → k ≤ min w.width (w.n - (w.number * w.width + 1))
    → sum_by (seen_of w) (range_with_len (w.number * w.width + 1) k) ≤ below w
part_below w k h =
    let a : ℕ = w.number * w.width + 1 in
    let m : ℕ = min w.width (w.n - a) in
    let whole : k + (m - k) ≡ m = omega arith in
    let j : sum_by (seen_of w) (range_with_len a (k + (m - k)))
    ≡ sum_by (seen_of w) (range_with_len a k) + sum_by (seen_of w) (range_with_len (a + k) (m - k)) =
    joined_sums (seen_of w) a k (m - k) in
    let e : sum_by (seen_of w) (range_with_len a (k + (m - k))) ≡ below w = ap (λ (i : ℕ). sum_by (seen_of w) (range_with_len a i)) whole in
    omega arith

-- the rank of a seat, its count and its answer stay
abbrev pub SameRank : SumSeat → SumSeat → Type 0
SameRank s s' = (s'.number ≡ s.number) × (s'.n ≡ s.n) × (s'.width ≡ s.width) × (s'.count ≡ s.count) × (s'.answer ≡ s.answer)

pub still : (t : SumTree) (s s' : SumSeat) (c found : ℕ) → IsSeat t s → c < t.n → s'.seat.table_id ≡ s.seat.table_id
    → s'.seat.me ≡ knowing s.seat.me (after_load s.seat.me.0.own c found) → seen_of s.seat.me.0.own c ≤ found / 2 → SameRank s s' → IsSeat t s'
still t s s' c found S bound table me up (number, n, width, count, answer) =
    let v : Known = s.seat.me.0.own in
    let w : Known = after_load v c found in
    let inside : c < length v.seen = (let e = S.long in omega arith) in
    let grew : below v ≤ below w =
    less_sums (seen_of v) (seen_of w) (v.number * v.width + 1) (min v.width (v.n - (v.number * v.width + 1)))
    (λ e low high. seen_grows v c found inside up e) in
    let at : s'.seat.me.0.own ≡ w = ap (λ (m : SeatState). m.0.own) me in
    record {
      mine = record {
        table = table ∙ S.mine.table;
        number = ap (λ (m : SeatState). m.0.own.number) me ∙ S.mine.number ∙ sym number;
        sized = ap (λ (m : SeatState). m.0.own.n) me ∙ S.mine.sized;
        wide = ap (λ (m : SeatState). m.0.own.width) me ∙ S.mine.wide;
        inside = subst (λ (j : ℕ). j < t.n) (sym number) S.mine.inside;
        live = ap (λ (m : SeatState). m.0.live) me ∙ S.mine.live;
      };
      n = n ∙ S.n;
      width = width ∙ S.width;
      alone = (ap (λ (m : SeatState). m.0.kept) me ∙ S.alone.0, ap (λ (m : SeatState). m.1) me ∙ S.alone.1);
      long = ap (λ (x : Known). length x.seen) at ∙ length-set v.seen c (found / 2) ∙ S.long;
      wide = ap (λ (x : Known). length x.finals) at ∙ length-set v.finals c (found % 2 == 1) ∙ S.wide;
      capped = subst (λ (k : ℕ). k ≤ 2 ^ 56 - 1) (sym count) S.capped;
      final = ap (λ (x : Known). x.is_final) at ∙ S.final ∙ ap is_some (sym answer);
      stored = (let a : s'.seat.me.0.own.count ≡ v.count = ap (λ (x : Known). x.count) at in let b = S.stored in omega arith);
      all_stored = λ e. ap (λ (x : Known). x.count) at ∙ S.all_stored (ap (λ (x : Known). x.is_final) (sym at) ∙ e) ∙ sym count;
      answered = λ x e. ap (λ (y : Known). y.word) at ∙ S.answered x (sym answer ∙ e);
      low = subst (λ (x : Known). x.word ≤ x.count + below x) (sym at) (let l = S.low in omega arith);
    }

sum_more : (w : Known) (a k found : ℕ) → a + k < length w.seen
    → sum_by (seen_of w) (range_with_len a k) + found / 2 ≡ sum_by (seen_of (after_load w (a + k) found)) (range_with_len a (k + 1))
sum_more w a k found inside =
    let w' : Known = after_load w (a + k) found in
    let old : sum_by (seen_of w') (range_with_len a k) ≡ sum_by (seen_of w) (range_with_len a k) =
    same_sums (seen_of w') (seen_of w) a k (λ c low high. get_or-set_other w.seen (a + k) c (found / 2) 0 (λ e. omega arith)) in
    let new : seen_of w' (a + k) ≡ found / 2 = get_or-set_same w.seen (a + k) (found / 2) 0 inside in
    let j : sum_by (seen_of w') (range_with_len a (k + 1)) ≡ sum_by (seen_of w') (range_with_len a k) + sum_by (seen_of w') ((a + k) ∷ []) =
    joined_sums (seen_of w') a k 1 in
    let o = sum_of_one (seen_of w') (a + k) in omega arith

bounded : (t : SumTree) (s : SumSeat) (a k : ℕ) → IsSeat t s → a ≡ s.number * s.width + 1 → k ≤ min s.width (s.n - a)
    → sum_by (seen_of s.seat.me.0.own) (range_with_len a k) ≤ below s.seat.me.0.own
bounded t s a k S is few =
    let w : Known = s.seat.me.0.own in
    let wide : w.width ≡ s.width = S.mine.wide ∙ sym S.width in
    let size : w.n ≡ s.n = S.mine.sized ∙ sym S.n in
    let first : w.number * w.width + 1 ≡ a = ap (λ (j : ℕ). j * w.width + 1) S.mine.number ∙ ap (λ (j : ℕ). s.number * j + 1) wide ∙ sym is in
    let few2 : k ≤ min w.width (w.n - (w.number * w.width + 1)) =
    subst (λ (j : ℕ). k ≤ min w.width (w.n - j)) (sym first)
    (subst (λ (j : ℕ). k ≤ min w.width (j - a)) (sym size) (subst (λ (j : ℕ). k ≤ min j (s.n - a)) (sym wide) few)) in
    subst (λ (j : ℕ). sum_by (seen_of w) (range_with_len j k) ≤ below w) first (part_below w k few2)

-- the first child of a seat's rank, and how many children it has
abbrev pub first_child : SumSeat → ℕ
first_child s = s.number * s.width + 1

abbrev pub many_children : SumSeat → ℕ
many_children s = min s.width (s.n - first_child s)

-- a seat that began as v has become s, and becomes s' as it loads the word of one child more
pub record OneLoaded (t : SumTree) (v s s' : SumSeat) (child found : ℕ) : Type 0 where
  pub mine : IsSeat t s'
  pub long : first_child v + (child - first_child v) < length s.seat.me.0.own.seen
  pub wide : first_child v + (child - first_child v) < length s.seat.me.0.own.finals
  pub is : s'.seat.me.0.own ≡ after_load s.seat.me.0.own (first_child v + (child - first_child v)) found
  pub next : child - first_child v + 1 ≡ child + 1 - first_child v
  pub room : child - first_child v < many_children v

pub one_loaded : (t : SumTree) (v s s' : SumSeat) (child count found : ℕ) → v.n ≡ t.n → IsSeat t s → count ≡ many_children v → first_child v ≤ child
    → child < first_child v + count → s'.seat.table_id ≡ s.seat.table_id → s'.seat.me ≡ knowing s.seat.me (after_load s.seat.me.0.own child found)
    → seen_of s.seat.me.0.own child ≤ found / 2 → SameRank s s' → OneLoaded t v s s' child found
one_loaded t v s s' child count found size S many low high table me up same =
    let a : ℕ = first_child v in
    let back : a + (child - a) ≡ child = omega arith in
    let inside : child < t.n = omega arith in
    record {
      mine = still t s s' child found S inside table me up same;
      long = (let e = S.long in omega arith);
      wide = (let e = S.wide in omega arith);
      is = ap (λ (m : SeatState). m.0.own) me ∙ ap (λ (j : ℕ). after_load s.seat.me.0.own j found) (sym back);
      next = omega arith;
      room = omega arith;
    }

module _ {t : SumTree} {v s s' : SumSeat} {child found : ℕ} (L : OneLoaded t v s s' child found) where
  -- a fact of the words that were loaded
  pub on_load : (P : ℕ → Known → Type 0) → P (child - first_child v + 1) (after_load s.seat.me.0.own (first_child v + (child - first_child v)) found)
      → P (child + 1 - first_child v) s'.seat.me.0.own
  on_load P p = subst (λ (j : ℕ). P j s'.seat.me.0.own) L.next (subst (P (child - first_child v + 1)) (sym L.is) p)

  -- the sum with the number that was found
  pub on_sum : (sum : ℕ) → sum ≡ sum_by (seen_of s.seat.me.0.own) (range_with_len (first_child v) (child - first_child v)) → SameRank v s'
      → (sum + found / 2 ≡ sum_by (seen_of s'.seat.me.0.own) (range_with_len (first_child v) (child + 1 - first_child v)))
      × (sum + found / 2 ≤ below s'.seat.me.0.own)
  on_sum sum e same =
      let a : ℕ = first_child v in
      let w : Known = s'.seat.me.0.own in
      let is : sum + found / 2 ≡ sum_by (seen_of w) (range_with_len a (child + 1 - a)) =
      ap (λ (x : ℕ). x + found / 2) e ∙ sum_more s.seat.me.0.own a (child - a) found L.long
      ∙ ap (λ (u : Known). sum_by (seen_of u) (range_with_len a (child - a + 1))) (sym L.is)
      ∙ ap (λ (j : ℕ). sum_by (seen_of w) (range_with_len a j)) L.next in
      let few : child + 1 - a ≤ min s'.width (s'.n - a) = (let p = same.1 in let q = same.2 in let r = L.room in let n = L.next in omega arith) in
      let first : a ≡ s'.number * s'.width + 1 = ap (λ (j : ℕ). j * v.width + 1) (sym same.0) ∙ ap (λ (j : ℕ). s'.number * j + 1) (sym same.2) in
      let part = bounded t s' a (child + 1 - a) L.mine first few in (is, omega arith)

pub final_none : (v : Known) (a : ℕ) → LoadedFinal v a 0 v
final_none v a = record {
  loaded =
      record {
        loads = [];
        read = record { words = refl; kept = All-nil (λ x. x.left ≡ x.found) };
        seen = refl;
        are = sym (append-nil v.readings);
        same = refl;
      };
  reads = refl;
  all = λ c low high. absurd (omega arith);
}

all_more : (p : Reading → Bool) (xs : List Reading) (x : Reading) → list_all p xs ≡ true → p x ≡ true → list_all p (xs ++ x ∷ []) ≡ true
all_more p [] x all e = ap (λ (b : Bool). b && true) e
all_more p (y ∷ ys) x all e = both_true (p y) (list_all p ys) (list_all p (ys ++ x ∷ [])) all (λ h. all_more p ys x h e)
  where
    both_true : (a b d : Bool) → (a && b) ≡ true → (b ≡ true → d ≡ true) → (a && d) ≡ true
    both_true true b d h f = f h
    both_true false b d h f = h

pub final_more : (v w : Known) (a k found : ℕ) → LoadedFinal v a k w → a + k < length w.seen → a + k < length w.finals → found % 2 ≡ 1
    → LoadedFinal v a (k + 1) (after_load w (a + k) found)
final_more v w a k found F inside inside2 is_final =
    let M = loaded_more v w a k found F.loaded inside in
    let x : Reading = record { word = a + k; found = found; left = found } in
    let odd : (found % 2 == 1) ≡ true = eq-eqb (found % 2) 1 is_final in
    record {
      loaded = M.0;
      reads = ap (list_all is_final_read) M.1 ∙ all_more is_final_read F.loaded.loads x F.reads odd;
      all = λ c low high. dite (ℕ_discrete c (a + k))
          (λ e. ap (λ (j : ℕ). get_or (set w.finals (a + k) (found % 2 == 1)) j false) e
          ∙ get_or-set_same w.finals (a + k) (found % 2 == 1) false inside2 ∙ odd)
          (λ ne. get_or-set_other w.finals (a + k) c (found % 2 == 1) false ne ∙ F.all c low (omega arith));
    }

pub blocks : (v w : Known) (a k many found : ℕ) → LoadedFinal v a k w → a + k < length w.seen → k < many → found % 2 ≢ 1
    → Blocked v (range_with_len a many) (after_load w (a + k) found)
blocks v w a k many found F inside room not_final =
    let M = loaded_more v w a k found F.loaded inside in
    let whole : (k + 1) + (many - (k + 1)) ≡ many = omega arith in
    record {
      front = range_with_len a (k + 1);
      rest = range_with_len (a + (k + 1)) (many - (k + 1));
      in_order = sym (joined_ranges a (k + 1) (many - (k + 1))) ∙ ap (range_with_len a) whole;
      loads = F.loaded.loads;
      last = record { word = a + k; found = found; left = found };
      read = subst (Reads (range_with_len a (k + 1))) M.1 M.0.read;
      reads = F.reads;
      blocked = ne_eqb (found % 2) 1 not_final;
      are = M.0.are ∙ ap (λ rs. v.readings ++ rs) M.1;
    }
