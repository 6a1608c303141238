-- Parts that are taken back, one after the other.
use Rattle.level_work.proofs.Prelude.{◌≡◌, ◌⊎◌, inl, inr, ℕ, zero, suc, ◌+◌, ◌-◌, ◌^◌, ◌<◌, ◌≤◌, true, false, cond, ◌||◌, List, [], ◌∷◌, ◌++◌, length, map}
use Rattle.level_work.proofs.Prelude.{take, drop, Option, Some, None, IfSome, refl, ap, ◌∙◌, sym, subst, arith, is_some, slice_get, eqb, false≢true, nat_tests}
use Rattle.level_work.proofs.Prelude.{slice_get_within, sum_by-append, IsTrue, sum_by, list_any, slice_set, get, capped, Files, Area, all_but, under, in_tops}
use Rattle.level_work.proofs.Prelude.{tops_of, is_out, area_with, without_tops, same_tops, Joins, part_tree, part_area, part_count, tops_in, tops_out, AllBack}
use Rattle.level_work.proofs.Prelude.{Comes, stays, comes, InNone, SameShares, AreUnder, AllTell, Giving, Lot, exact_unsigned_eq, slice_end}
use Rattle.level_work.proofs.Lent.{same_tops_self}
use Rattle.level_work.proofs.Working.{same_some, get_more, other_number}

more : (i : ℕ) → i + 1 ≡ suc i
more i = omega arith

pub split_take_suc : {X : Type 0} (xs : List X) (i : ℕ) (x : X) → slice_get xs i ≡ Some x → take (suc i) xs ≡ take i xs ++ x ∷ []
split_take_suc [] i x e = cc
split_take_suc (y ∷ xs) zero x e = ap (λ z. z ∷ []) (same_some y x e)
split_take_suc (y ∷ xs) (suc i) x e = ap (λ r. y ∷ r) (split_take_suc xs i x e)

pub split_take : {X : Type 0} (xs : List X) (i : ℕ) (x : X) → slice_get xs i ≡ Some x → take (i + 1) xs ≡ take i xs ++ x ∷ []
split_take xs i x e = ap (λ k. take k xs) (more i) ∙ split_take_suc xs i x e

pub split_drop_suc : {X : Type 0} (xs : List X) (i : ℕ) (x : X) → slice_get xs i ≡ Some x → drop i xs ≡ x ∷ drop (suc i) xs
split_drop_suc [] i x e = cc
split_drop_suc (y ∷ xs) zero x e = ap (λ z. z ∷ xs) (same_some y x e)
split_drop_suc (y ∷ xs) (suc i) x e = split_drop_suc xs i x e

pub split_drop : {X : Type 0} (xs : List X) (i : ℕ) (x : X) → slice_get xs i ≡ Some x → drop i xs ≡ x ∷ drop (i + 1) xs
split_drop xs i x e = split_drop_suc xs i x e ∙ ap (λ k. x ∷ drop k xs) (sym (more i))

pub take_all : {X : Type 0} (xs : List X) (i : ℕ) → length xs ≤ i → take i xs ≡ xs
take_all [] zero l = refl
take_all [] (suc i) l = refl
take_all (x ∷ xs) zero l = absurd (omega (arith, l))
take_all (x ∷ xs) (suc i) l = ap (λ r. x ∷ r) (take_all xs i (omega (arith, l)))

pub get_front : {X : Type 0} (xs : List X) (y f : X) (j : ℕ) → slice_get xs j ≡ Some f → slice_get (xs ++ y ∷ []) j ≡ Some f
get_front [] y f j e = cc
get_front (x ∷ xs) y f zero e = e
get_front (x ∷ xs) y f (suc j) e = get_front xs y f j e

pub get_set_same : {X : Type 0} (xs : List X) (i : ℕ) (x : X) → i < length xs → slice_get (slice_set xs i x) i ≡ Some x
get_set_same [] i x l = absurd (omega (arith, l))
get_set_same (y ∷ xs) zero x l = refl
get_set_same (y ∷ xs) (suc i) x l = get_set_same xs i x (omega (arith, l))

pub get_set_other : {X : Type 0} (xs : List X) (i j : ℕ) (x : X) → (j ≡ i → ⊥) → slice_get (slice_set xs i x) j ≡ slice_get xs j
get_set_other [] i j x n = refl
get_set_other (y ∷ xs) zero zero x n = absurd (n refl)
get_set_other (y ∷ xs) zero (suc j) x n = refl
get_set_other (y ∷ xs) (suc i) zero x n = refl
get_set_other (y ∷ xs) (suc i) (suc j) x n = get_set_other xs i j x (λ e. n (ap suc e))

module _ {A P : Type 0} (tree : P → Option Files) (area : P → Area) (count : P → ℕ) where
  out_first : (lots : List (Lot A P)) (i : ℕ) (lot : Lot A P) (p : P) (a : Area) → slice_get lots i ≡ Some lot → lot.part ≡ Some p
      → part_area area lot.part ≡ under (tops_of (part_area area lot.part)) → a ≡ all_but (tops_out (part_area area) (drop i lots)) [] →
      (area p ≡ under (tops_of (area p))) × (a ≡ all_but (tops_of (area p) ∷ tops_out (part_area area) (drop (i + 1) lots)) [])
  out_first lots i lot p a at is own e =
      let u : area p ≡ under (tops_of (area p)) = subst (λ o. part_area area o ≡ under (tops_of (part_area area o))) is own in (
        u,
        e ∙ ap (λ l. all_but (tops_out (part_area area) l) []) (split_drop lots i lot at)
            ∙ ap (λ o. all_but (tops_in (part_area area o) ++ tops_out (part_area area) (drop (i + 1) lots)) []) is
            ∙ ap (λ x. all_but (tops_in x ++ tops_out (part_area area) (drop (i + 1) lots)) []) u,
      )

  pub is_out_now : (lots : List (Lot A P)) (i : ℕ) (lot : Lot A P) (p : P) (a : Area) → slice_get lots i ≡ Some lot → lot.part ≡ Some p
      → part_area area lot.part ≡ under (tops_of (part_area area lot.part)) → a ≡ all_but (tops_out (part_area area) (drop i lots)) []
      → IsTrue (is_out (area p) a)
  is_out_now lots i lot p a at is own e = let w = out_first lots i lot p a at is own e in
      (λ k. is_out (w.0 k) (w.1 k))
      ∙ ap (λ b. b || list_any (λ one. same_tops one (tops_of (area p))) (tops_out (part_area area) (drop (i + 1) lots)))
      (same_tops_self (tops_of (area p)))

  pub area_next : (lots : List (Lot A P)) (i : ℕ) (lot : Lot A P) (p : P) (a a' : Area) → slice_get lots i ≡ Some lot → lot.part ≡ Some p
      → part_area area lot.part ≡ under (tops_of (part_area area lot.part)) → a ≡ all_but (tops_out (part_area area) (drop i lots)) [] →
      a' ≡ area_with (tops_of (area p)) a → a' ≡ all_but (tops_out (part_area area) (drop (i + 1) lots)) []
  area_next lots i lot p a a' at is own e s = let w = out_first lots i lot p a at is own e in
      s ∙ ap (area_with (tops_of (area p))) w.1
      ∙ ap (λ b. all_but (cond b (tops_out (part_area area) (drop (i + 1) lots))
      (tops_of (area p) ∷ without_tops (tops_of (area p)) (tops_out (part_area area) (drop (i + 1) lots)))) [])
      (same_tops_self (tops_of (area p)))

  pub area_skip : (lots : List (Lot A P)) (i : ℕ) (lot : Lot A P) (a : Area) → slice_get lots i ≡ Some lot → lot.part ≡ None
      → a ≡ all_but (tops_out (part_area area) (drop i lots)) [] → a ≡ all_but (tops_out (part_area area) (drop (i + 1) lots)) []
  area_skip lots i lot a at is e = e ∙ ap (λ l. all_but (tops_out (part_area area) l) []) (split_drop lots i lot at)
      ∙ ap (λ o. all_but (tops_in (part_area area o) ++ tops_out (part_area area) (drop (i + 1) lots)) []) is

  none_more : (done : List (Lot A P)) (lot : Lot A P) (q : List ℕ) → InNone (part_area area) done q
      → in_tops (tops_of (part_area area lot.part)) q ≡ false → InNone (part_area area) (done ++ lot ∷ []) q
  none_more done lot q n off i one at = by (get_more done lot i one at)
    where
      by : (slice_get done i ≡ Some one) ⊎ ((i ≡ length done) × (lot ≡ one)) → in_tops (tops_of (part_area area one.part)) q ≡ false
      by (inl old) = n i one old
      by (inr new) = subst (λ (l : Lot A P). in_tops (tops_of (part_area area l.part)) q ≡ false) new.1 off

  back_more : (done : List (Lot A P)) (lot : Lot A P) (p : P) (own rest now next : Files) → lot.part ≡ Some p → tree p ≡ Some own
      → Joins (tops_of (area p)) own now next → AllBack (part_tree tree) (part_area area) done rest now
      → AllBack (part_tree tree) (part_area area) (done ++ lot ∷ []) rest next
  back_more done lot p own rest now next is tells j all q =
      elim (in_tops (tops_of (area p)) q) as
      (λ b. in_tops (tops_of (area p)) q ≡ b → Comes (part_tree tree) (part_area area) (done ++ lot ∷ []) rest next q) [
        | true ↦ λ on. comes (length done) lot own (slice_end done lot) (ap (part_tree tree) is ∙ tells)
            (ap (λ o. in_tops (tops_of (part_area area o)) q) is ∙ on) (j q ∙ ap (λ b. cond b (get own q) (get now q)) on)
        | false ↦ λ off. by (j q ∙ ap (λ b. cond b (get own q) (get now q)) off) (ap (λ o. in_tops (tops_of (part_area area o)) q) is ∙ off) (all q)
      ] refl
    where
      by : get next q ≡ get now q → in_tops (tops_of (part_area area lot.part)) q ≡ false
          → Comes (part_tree tree) (part_area area) done rest now q → Comes (part_tree tree) (part_area area) (done ++ lot ∷ []) rest next q
      by same off (stays none e) = stays (none_more done lot q none off) (same ∙ e)
      by same off (comes i one his at shows on e) = comes i one his (get_front done lot one i at) shows on (same ∙ e)

  pub told_next : (lots : List (Lot A P)) (i : ℕ) (lot : Lot A P) (p : P) (t0 t t' : Option Files) → slice_get lots i ≡ Some lot
      → lot.part ≡ Some p → is_some (tree p) ≡ is_some t
      → IfSome t0 (λ r. IfSome t (AllBack (part_tree tree) (part_area area) (take i lots) r)) → is_some t ≡ is_some t0 →
      IfSome t (λ rest. IfSome (tree p) (λ own. IfSome t' (Joins (tops_of (area p)) own rest)))
      → IfSome t0 (λ r. IfSome t' (AllBack (part_tree tree) (part_area area) (take (i + 1) lots) r))
  told_next lots i lot p None t t' at is tp all same j = tt
  told_next lots i lot p (Some r) None t' at is tp all same j = absurd (false≢true same)
  told_next lots i lot p (Some r) (Some now) None at is tp all same j = tt
  told_next lots i lot p (Some r) (Some now) (Some next) at is tp all same j = by (tree p) refl tp j
    where
      by : (o : Option Files) → tree p ≡ o → is_some o ≡ true → IfSome o (λ own. Joins (tops_of (area p)) own now next)
          → AllBack (part_tree tree) (part_area area) (take (i + 1) lots) r next
      by None e s j = absurd (false≢true s)
      by (Some own) e s j = subst (λ l. AllBack (part_tree tree) (part_area area) l r next) (sym (split_take lots i lot at))
          (back_more (take i lots) lot p own r now next is e j all)

  skip_more : (done : List (Lot A P)) (lot : Lot A P) (rest now : Files) → lot.part ≡ None
      → AllBack (part_tree tree) (part_area area) done rest now → AllBack (part_tree tree) (part_area area) (done ++ lot ∷ []) rest now
  skip_more done lot rest now is all q = by (all q)
    where
      by : Comes (part_tree tree) (part_area area) done rest now q → Comes (part_tree tree) (part_area area) (done ++ lot ∷ []) rest now q
      by (stays none e) = stays (none_more done lot q none (ap (λ o. in_tops (tops_of (part_area area o)) q) is)) e
      by (comes i one his at shows on e) = comes i one his (get_front done lot one i at) shows on e

  pub told_skip : (lots : List (Lot A P)) (i : ℕ) (lot : Lot A P) (t0 t t' : Option Files) → slice_get lots i ≡ Some lot → lot.part ≡ None
      → t' ≡ t → IfSome t0 (λ r. IfSome t (AllBack (part_tree tree) (part_area area) (take i lots) r))
      → IfSome t0 (λ r. IfSome t' (AllBack (part_tree tree) (part_area area) (take (i + 1) lots) r))
  told_skip lots i lot None t t' at is s all = tt
  told_skip lots i lot (Some r) t t' at is s all = subst (λ o. IfSome o (AllBack (part_tree tree) (part_area area) (take (i + 1) lots) r)) (sym s) (by t all)
    where
      by : (t : Option Files) → IfSome t (AllBack (part_tree tree) (part_area area) (take i lots) r)
          → IfSome t (AllBack (part_tree tree) (part_area area) (take (i + 1) lots) r)
      by None all = tt
      by (Some now) all = subst (λ l. AllBack (part_tree tree) (part_area area) l r now) (sym (split_take lots i lot at))
          (skip_more (take i lots) lot r now is all)

  pub sum_next : (lots : List (Lot A P)) (i : ℕ) (lot : Lot A P) → slice_get lots i ≡ Some lot
      → sum_by (λ l. part_count count l.part) (take (i + 1) lots)
      ≡ sum_by (λ l. part_count count l.part) (take i lots) + part_count count lot.part
  sum_next lots i lot at = ap (sum_by (λ l. part_count count l.part)) (split_take lots i lot at)
      ∙ sum_by-append (λ l. part_count count l.part) (take i lots) (lot ∷ [])
      ∙ ap (λ k. sum_by (λ l. part_count count l.part) (take i lots) + k) (omega arith)

pub start : {A P : Type 0} (tree : Option P → Option Files) (area : Option P → Area) (count : Option P → ℕ) (lots : List (Lot A P))
    (a : Area) (t : Option Files) (g : ℕ) → a ≡ all_but (tops_out area lots) [] → Giving tree area count 0 lots lots a t t g g
start tree area count lots a t g e = record {
  len = refl;
  shares = record { actor = refl; places = refl; fates = refl; lost = refl };
  home = λ j lot l at. absurd (omega (arith, l));
  rest = λ j l. refl;
  at = e;
  tells = refl;
  told = by t;
  kept = omega arith;
  counts = λ l. omega arith;
  below = λ l j lot at. cc;
}
  where
    by : (t : Option Files) → IfSome t (λ r. IfSome t (AllBack tree area (take 0 lots) r))
    by None = tt
    by (Some r) = λ q. stays (λ i lot at. cc) refl

pub length_set : {X : Type 0} (xs : List X) (i : ℕ) (x : X) → length (slice_set xs i x) ≡ length xs
length_set [] i x = refl
length_set (y ∷ xs) zero x = refl
length_set (y ∷ xs) (suc i) x = ap suc (length_set xs i x)

pub map_set : {X Y : Type 0} (f : X → Y) (xs : List X) (i : ℕ) (x y : X) → slice_get xs i ≡ Some x → f y ≡ f x → map f (slice_set xs i y) ≡ map f xs
map_set f [] i x y at e = refl
map_set f (z ∷ xs) zero x y at e = ap (λ v. v ∷ map f xs) (e ∙ ap f (sym (same_some z x at)))
map_set f (z ∷ xs) (suc i) x y at e = ap (λ r. f z ∷ r) (map_set f xs i x y at e)

-- a lot that gets another part, stored in its place
pub shares_set : {A P : Type 0} (lots now : List (Lot A P)) (i : ℕ) (lot new : Lot A P) (part : Option P) → slice_get now i ≡ Some lot
    → new ≡ record lot { part = part } → SameShares lots now → SameShares lots (slice_set now i new)
shares_set lots now i lot new part here is s = record {
  actor = map_set (λ (l : Lot _ _). l.actor) now i lot new here (ap (λ (l : Lot _ _). l.actor) is) ∙ s.actor;
  places = map_set (λ (l : Lot _ _). l.places) now i lot new here (ap (λ (l : Lot _ _). l.places) is) ∙ s.places;
  fates = map_set (λ (l : Lot _ _). l.fates) now i lot new here (ap (λ (l : Lot _ _). l.fates) is) ∙ s.fates;
  lost = map_set (λ (l : Lot _ _). l.lost) now i lot new here (ap (λ (l : Lot _ _). l.lost) is) ∙ s.lost;
}

module _ {A P : Type 0} (tree : P → Option Files) (area : P → Area) (count : P → ℕ) where
  pub step : (i : ℕ) (lots now : List (Lot A P)) (lot new : Lot A P) (a a' : Area) (t0 t t' : Option Files) (g0 g g' : ℕ)
      → slice_get now i ≡ Some lot → new ≡ record lot { part = None } → AreUnder (part_area area) lots → AllTell (part_tree tree) t0 lots →
      (lot.part ≡ None → (t' ≡ t) × (a' ≡ a) × (g' ≡ g)) →
      ((p : P) → lot.part ≡ Some p → IfSome t (λ rest. IfSome (tree p) (λ own. IfSome t' (Joins (tops_of (area p)) own rest)))) →
      ((p : P) → lot.part ≡ Some p → a' ≡ area_with (tops_of (area p)) a) →
      ((p : P) → lot.part ≡ Some p → g' ≡ capped g (count p)) → g ≤ g' → is_some t' ≡ is_some t →
      Giving (part_tree tree) (part_area area) (part_count count) i lots now a t0 t g0 g
      → Giving (part_tree tree) (part_area area) (part_count count) (i + 1) lots (slice_set now i new) a' t0 t' g0 g'
  step i lots now lot new a a' t0 t t' g0 g g' here is unders tell none joins areas counts up tells v = by lot.part refl
    where
      at : slice_get lots i ≡ Some lot
      at = sym (v.rest i (omega arith)) ∙ here

      inside : i < length now
      inside = slice_get_within now i lot here

      home : (j : ℕ) (one : Lot A P) → j < i + 1 → slice_get (slice_set now i new) j ≡ Some one → one.part ≡ None
      home j one l e = elim (eqb j i) as (λ b. eqb j i ≡ b → one.part ≡ None) [
        | true ↦ λ h. ap (λ (l : Lot A P). l.part)
            (sym (same_some new one (sym (get_set_same now i new inside)
            ∙ subst (λ k. slice_get (slice_set now i new) k ≡ Some one) (exact_unsigned_eq j i h) e)) ∙ is)
        | false ↦ λ h. v.home j one (before j i l h) (sym (get_set_other now i j new (other_number j i h)) ∙ e)
      ] refl
        where
          before : (j n : ℕ) → j < n + 1 → eqb j n ≡ false → j < n
          before j n l e = grind (arith, nat_tests)

      rest : (j : ℕ) → i + 1 ≤ j → slice_get (slice_set now i new) j ≡ slice_get lots j
      rest j l = get_set_other now i j new (λ e. absurd (omega (arith, e, l))) ∙ v.rest j (omega (arith, l))

      below_more : (k : ℕ) → part_count count lot.part < k
          → ((j : ℕ) (one : Lot A P) → slice_get (take i lots) j ≡ Some one → part_count count one.part < k) → (j : ℕ) (one : Lot A P)
          → slice_get (take (i + 1) lots) j ≡ Some one → part_count count one.part < k
      below_more k l all j one e = case (get_more (take i lots) lot j one (subst (λ xs. slice_get xs j ≡ Some one) (split_take lots i lot at) e))
        where
          case : (slice_get (take i lots) j ≡ Some one) ⊎ ((j ≡ length (take i lots)) × (lot ≡ one)) → part_count count one.part < k
          case (inl old) = all j one old
          case (inr last) = subst (λ (l : Lot A P). part_count count l.part < k) last.1 l

      by : (o : Option P) → lot.part ≡ o → Giving (part_tree tree) (part_area area) (part_count count) (i + 1) lots (slice_set now i new) a' t0 t' g0 g'
      by None e = let n = none e in record {
        len = length_set now i new ∙ v.len;
        shares = shares_set lots now i lot new None here is v.shares;
        home = home;
        rest = rest;
        at = n.1 ∙ area_skip tree area count lots i lot a at e v.at;
        tells = tells ∙ v.tells;
        told = told_skip tree area count lots i lot t0 t t' at e n.0 v.told;
        kept = omega (arith, up, v.kept);
        counts = λ l. omega (arith, v.counts (omega (arith, l, n.2)), n.2, sum_next tree area count lots i lot at, ap (part_count count) e);
        below = λ l. below_more (2 ^ 64 - 1) (omega (arith, ap (part_count count) e, l)) (v.below (omega (arith, l, n.2)));
      }
      by (Some p) e = record {
        len = length_set now i new ∙ v.len;
        shares = shares_set lots now i lot new None here is v.shares;
        home = home;
        rest = rest;
        at = area_next tree area count lots i lot p a a' at e (unders i lot p at e) v.at (areas p e);
        tells = tells ∙ v.tells;
        told = told_next tree area count lots i lot p t0 t t' at e
            (ap (λ o. is_some (part_tree tree o)) (sym e) ∙ tell i lot p at e ∙ sym v.tells) v.told v.tells (joins p e);
        kept = omega (arith, up, v.kept);
        counts = λ l. omega (arith, v.counts (omega (arith, l, up)), l, counts p e, sum_next tree area count lots i lot at, ap (part_count count) e);
        below = λ l. below_more (2 ^ 64 - 1) (omega (arith, l, counts p e, ap (part_count count) e)) (v.below (omega (arith, l, up)));
      }
