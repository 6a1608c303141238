-- Strings that are left and placed are apart, and those of a checkpoint are valid; so in path order they are their own roots.
use Rattle.stage_report.proofs.Prelude.{◌≡◌, inl, inr, ◌⊎◌, ⊎_elim, ℕ, ◌<◌, ◌≤◌, suc, Bool, true, false, ◌&&◌, ◌||◌, cond, List, [], ◌∷◌, length, get_or, refl}
use Rattle.stage_report.proofs.Prelude.{ap, ◌∙◌, sym, arith, ◌==◌, nat_lt, AllByRecursion, Contains, sum_by, count_by, list_any, false≢true, cases_lt}
use Rattle.stage_report.proofs.Prelude.{and_parts, nat_tests, recursion_from_All, All-from_recursion, Contains-get_or, sum_by-cons, sum_by-IsPermutation, front}
use Rattle.stage_report.proofs.Prelude.{Files, all_weaker, Entry, HoldLists, Valid, is_in, is_in_some, Apart, IsRoots, all_flat, begins, at_or_under, is_in_is}
use Rattle.stage_report.proofs.Prelude.{in_trans, In, of_all, each_in, covers, covers-itself, to_apart, some_covers, moved, clashes, is_misplaced, ArePlaced}
use Rattle.stage_report.proofs.Prelude.{all_of, stands_covered}
use Rattle.circle_lists.specs.Spelling.{IsWritable}
use Rattle.tree_walk.proofs.Ordered.{InOrder}

-- ---- of two paths that are both above a path, one is above the other

one_begins : (a b c : ℕ) (p q : Bool) → (a == c) ≡ true → (b == c) ≡ true → (p ≡ true) ⊎ (q ≡ true) → ((a == b && p) ≡ true) ⊎ ((b == a && q) ≡ true)
one_begins a b c p q e d (inl h) = inl (grind (arith, nat_tests))
one_begins a b c p q e d (inr h) = inr (grind (arith, nat_tests))

both_begin : (f g z : List ℕ) → begins f z ≡ true → begins g z ≡ true → (begins f g ≡ true) ⊎ (begins g f ≡ true)
both_begin [] g z e d = inl refl
both_begin (a ∷ f) [] z e d = inr refl
both_begin (a ∷ f) (b ∷ g) [] e d = absurd (false≢true e)
both_begin (a ∷ f) (b ∷ g) (c ∷ z) e d =
    let of_f = and_parts (a == c) (begins f z) e in
    let of_g = and_parts (b == c) (begins g z) d in
    one_begins a b c (begins f g) (begins g f) of_f.0 of_g.0 (both_begin f g z of_f.1 of_g.1)

one_above : (x p q : List ℕ) → is_in x p ≡ true → is_in x q ≡ true → (is_in q p ≡ true) ⊎ (is_in p q ≡ true)
one_above x p q e d =
    ⊎_elim (λ h. inl (is_in_is q p ∙ h)) (λ h. inr (is_in_is p q ∙ h))
    (both_begin (front p) (front q) (front x) (sym (is_in_is x p) ∙ e) (sym (is_in_is x q) ∙ d))

-- ---- the lowest of the paths above a path has all of them above it

as_covers : (x p : List ℕ) → is_in x p ≡ true → covers x p ≡ 1
as_covers x p e = ap (λ b. cond b 1 0) (sym (is_in_is x p) ∙ e)

covers_trans : (x y p : List ℕ) → is_in y x ≡ true → covers x p ≤ covers y p
covers_trans x y p h = elim (at_or_under x p) as (λ b. at_or_under x p ≡ b → cond b 1 0 ≤ covers y p) [
  | true ↦ λ t. let is : covers y p ≡ 1 = as_covers y p (in_trans y x p h (is_in_is x p ∙ t)) in omega (arith, is)
  | false ↦ λ f. omega arith
] refl

all_trans : (x y : List ℕ) (ps : List (List ℕ)) → is_in y x ≡ true → sum_by (covers x) ps ≤ sum_by (covers y) ps
all_trans x y [] h = omega arith
all_trans x y (p ∷ ps) h =
    omega (arith, sum_by-cons (covers x) p ps, sum_by-cons (covers y) p ps, covers_trans x y p h, all_trans x y ps h)

record Lowest (x : List ℕ) (ps : List (List ℕ)) : Type 0 where
  path : List ℕ
  stands : In path ps
  is : is_in x path ≡ true
  more : sum_by (covers x) ps ≤ sum_by (covers path) ps

lower : (x p : List ℕ) (ps : List (List ℕ)) → is_in x p ≡ true → Lowest x ps → Lowest x (p ∷ ps)
lower x p ps e r =
    let all = sum_by-cons (covers x) p ps in
    let here = as_covers x p e in
    ⊎_elim
    (λ under. record {
      path = r.path;
      stands = inr r.stands;
      is = r.is;
      more = omega (arith, all, here, r.more, sum_by-cons (covers r.path) p ps, as_covers r.path p under);
    })
    (λ over. record {
      path = p;
      stands = inl refl;
      is = e;
      more = omega (arith, all, here, r.more, sum_by-cons (covers p) p ps, covers-itself p, all_trans r.path p ps over);
    })
    (one_above x p r.path e r.is)

lowest : (x : List ℕ) (ps : List (List ℕ)) → 0 < sum_by (covers x) ps → Lowest x ps
lowest x [] h = absurd (omega (arith, h))
lowest x (p ∷ ps) h =
    let parts = sum_by-cons (covers x) p ps in
    elim (at_or_under x p) as (λ b. at_or_under x p ≡ b → Lowest x (p ∷ ps)) [
      | true ↦ λ t.
          let e = is_in_is x p ∙ t in
          let here = as_covers x p e in
          ⊎_elim
          (λ some. lower x p ps e (lowest x ps some))
          (λ none. record { path = p; stands = inl refl; is = e; more = omega (arith, parts, here, none, sum_by-cons (covers p) p ps, covers-itself p) })
          (cases_lt 0 (sum_by (covers x) ps))
      | false ↦ λ f.
          let here : covers x p ≡ 0 = ap (λ b. cond b 1 0) f in
          let r = lowest x ps (omega (arith, h, parts, here)) in
          record { path = r.path; stands = inr r.stands; is = r.is; more = omega (arith, parts, here, r.more, sum_by-cons (covers r.path) p ps) }
    ] refl

-- ---- so strings that are placed are apart

not_many : (a : Bool) (n : ℕ) → (a || nat_lt 1 n) ≡ false → n ≤ 1
not_many true n e = absurd (false≢true (sym e))
not_many false n e = grind (arith, nat_tests)

few_above : (done : List Entry) (left : List (List ℕ)) (path : List ℕ) → is_misplaced done left path ≡ false → sum_by (covers path) left ≤ 1
few_above done left path e =
    let same : count_by (is_in path) left ≡ sum_by (covers path) left = λ i. sum_by (λ p. cond (is_in_is path p i) 1 0) left in
    omega (arith, same, not_many (list_any (clashes path) done) (count_by (is_in path) left) e)

pub few_cover : (done : List Entry) (left : List (List ℕ)) → ArePlaced done left → (x : List ℕ) → sum_by (covers x) left ≤ 1
few_cover done left placed x =
    let P : List ℕ → Type 0 = λ path. is_misplaced done left path ≡ false in
    ⊎_elim
    (λ many.
    let low = lowest x left (omega (arith, many)) in
    let one = few_above done left low.path (of_all P left low.path (recursion_from_All P left placed) low.stands) in
    absurd (omega (arith, many, low.more, one)))
    (λ few. few)
    (cases_lt 1 (sum_by (covers x) left))

pub placed_apart : (done : List Entry) (left : List (List ℕ)) → ArePlaced done left → Apart left
placed_apart done left placed = to_apart left (few_cover done left placed)

-- ---- the strings of a checkpoint are valid

each_list : (P : List (List ℕ) → Type 0) (lists : List (List (List ℕ))) → ((rank : ℕ) → rank < length lists → P (get_or lists rank [])) →
    AllByRecursion P lists
each_list P [] h = tt
each_list P (l ∷ lists) h = (h 0 (omega arith), each_list P lists (λ rank lt. h (suc rank) (omega (arith, lt))))

pub left_valid : (dir : List ℕ) (left : List (List (List ℕ))) (files : Files) → HoldLists dir left files → AllByRecursion Valid (all_of left)
left_valid dir left files held =
    all_flat Valid (λ list. list) left
    (each_list (AllByRecursion Valid) left
    (λ rank lt. all_weaker IsWritable Valid (λ path w. w.valid) (get_or left rank []) (held rank lt).spells.list.each))

-- ---- paths that are apart, in path order, are their own roots

pub own_roots : (ps : List (List ℕ)) → ((x : List ℕ) → sum_by (covers x) ps ≤ 1) → (o : InOrder ps) → IsRoots ps o.list
own_roots ps few o =
    let InSome : List ℕ → Type 0 = λ path. is_in_some o.list path ≡ true in
    let each : AllByRecursion (Contains ps) ps = recursion_from_All (Contains ps) ps (λ k d lt. Contains-get_or ps k d lt) in
    let covered = all_weaker (λ p. In p ps) InSome
    (λ p i. some_covers p o.list (omega (arith, stands_covered p ps i, sum_by-IsPermutation (covers p) ps o.list o.all))) ps (each_in ps) in
    record {
      among = All-from_recursion (Contains ps) o.list (moved (Contains ps) ps o.list o.all each);
      ascend = o.ascend;
      apart = to_apart o.list (λ x. omega (arith, few x, sum_by-IsPermutation (covers x) ps o.list o.all));
      cover = All-from_recursion InSome ps covered;
    }
