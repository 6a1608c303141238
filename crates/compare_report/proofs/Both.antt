-- What is picked of two lists, joined in path order.
use Rattle.compare_report.proofs.Prelude.{◌≡◌, ℕ, ◌+◌, ◌<◌, ◌≤◌, Bool, true, false, not, ◌&&◌, ◌||◌, List, [], ◌∷◌, ◌++◌, length, cond, filter, get_or, refl}
use Rattle.compare_report.proofs.Prelude.{ap, sym, subst, ◌∙◌, arith, AllByRecursion, list_any, sum_by, IsPermutation, IsSortedByKey, is_lt, is_eq}
use Rattle.compare_report.proofs.Prelude.{ordering_reverse, nat_eq, pointwise, bytes_decides, Less, Equal, Greater, get_or-map, false≢true, length-map}
use Rattle.compare_report.proofs.Prelude.{sum_by-cons, sum_by-append, sum_by_more, sum_by_more_le, sum_by-IsPermutation, sorted_from_all_adjacent, path_cmp}
use Rattle.compare_report.proofs.Prelude.{path_cmp_total, path_cmp_ties, path_cmp_same, Entry, paths, picks, is_new, IsJoined, picks_but, order_kept}
use Rattle.std.specs.List.Sorted.{IsStrictlySortedBy}

-- how often a path is that of an entry
abbrev one : List ℕ → List ℕ → ℕ
one x y = cond (pointwise nat_eq x y) 1 0

abbrev times : List ℕ → List Entry → ℕ
times x es = sum_by (λ e. one x e.path) es

-- ---- a sorted list with each path once ascends strictly

one_same : (x y : List ℕ) → x ≡ y → one x y ≡ 1
one_same x y e = ap (λ b. cond b 1 0) ((bytes_decides x y).1 e)

not_less : (x y : List ℕ) → is_lt (path_cmp y x) ≡ false → one x y ≡ 0 → path_cmp x y ≡ Less
not_less x y h o = elim (path_cmp x y) as (λ c. path_cmp x y ≡ c → path_cmp x y ≡ Less) [
  | Less ↦ λ e. e
  | Equal ↦ λ e. let bad : one x y ≡ 1 = one_same x y (path_cmp_same x y e) in absurd (omega (arith, bad, o))
  | Greater ↦ λ e. absurd (false≢true (sym h ∙ ap is_lt (path_cmp_total.antisymm y x ∙ ap ordering_reverse e)))
] refl

two_places : (x : List ℕ) (es : List Entry) (k : ℕ) (d : Entry) → k + 1 < length es →
    one x (get_or es k d).path + one x (get_or es (k + 1) d).path ≤ times x es
two_places x es k d h =
    omega (arith, sum_by_more_le (λ (e : Entry). one x e.path) es (k + 1) d h, sum_by_more (λ (e : Entry). one x e.path) es k d (omega arith))

rises : (es : List Entry) → IsSortedByKey (λ e. e.path) path_cmp es → ((x : List ℕ) → times x es ≤ 1) → IsStrictlySortedBy path_cmp (paths es)
unfolding IsStrictlySortedBy
rises [] s o = tt
rises (e ∷ es) s o = sorted_from_all_adjacent path_cmp_total (paths (e ∷ es)) e.path (λ k h.
    let n : k + 1 < length (e ∷ es) = omega (arith, h, length-map (e ∷ es) (λ (e : Entry). e.path)) in
    let x = (get_or (e ∷ es) k e).path in
    let y = (get_or (e ∷ es) (k + 1) e).path in
    let self : one x x ≡ 1 = one_same x x refl in
    let other : one x y ≡ 0 = omega (arith, two_places x (e ∷ es) k e n, o x, self) in
    let less : path_cmp x y ≡ Less = not_less x y (s k e (omega arith) n) other in
    (λ i. path_cmp (get_or-map (λ (e : Entry). e.path) (e ∷ es) k e i) (get_or-map (λ (e : Entry). e.path) (e ∷ es) (k + 1) e i)) ∙ less)

-- ---- each path once

-- a path that none of the entries has
none : (x : List ℕ) (es : List Entry) → list_any (pointwise nat_eq x) (paths es) ≡ false → times x es ≡ 0
none x [] e = refl
none x (e ∷ es) h = elim (pointwise nat_eq x e.path) as (λ b. pointwise nat_eq x e.path ≡ b → times x (e ∷ es) ≡ 0) [
  | true ↦ λ same. absurd (false≢true (sym h ∙ (λ i. same i || list_any (pointwise nat_eq x) (paths es))))
  | false ↦ λ other. let rest = none x es ((λ i. sym other i || list_any (pointwise nat_eq x) (paths es)) ∙ h) in
      sum_by-cons (λ (e : Entry). one x e.path) e es ∙ (λ i. cond (other i) 1 0 + rest i)
] refl

behind_none : (x : List ℕ) (es : List Entry) → AllByRecursion (λ p. path_cmp x p ≡ Less) (paths es) → times x es ≡ 0
behind_none x [] h = refl
behind_none x (e ∷ es) h =
    let off : pointwise nat_eq x e.path ≡ false = path_cmp_ties x e.path ∙ ap (λ c. is_eq c) h.0 in
    sum_by-cons (λ (e : Entry). one x e.path) e es ∙ (λ i. cond (off i) 1 0 + behind_none x es h.1 i)

at_most_once : (x : List ℕ) (es : List Entry) → IsStrictlySortedBy path_cmp (paths es) → times x es ≤ 1
unfolding IsStrictlySortedBy
at_most_once x [] s = omega arith
at_most_once x (e ∷ es) s = elim (pointwise nat_eq x e.path) as (λ b. pointwise nat_eq x e.path ≡ b → times x (e ∷ es) ≤ 1) [
  | true ↦ λ same.
      let is : x ≡ e.path = (bytes_decides x e.path).0 same in
      let rest : times x es ≡ 0 = ap (λ y. times y es) is ∙ behind_none e.path es s.0 in
      let here : one x e.path ≡ 1 = ap (λ b. cond b 1 0) same in
      omega (arith, sum_by-cons (λ (e : Entry). one x e.path) e es, rest, here)
  | false ↦ λ other.
      let here : one x e.path ≡ 0 = ap (λ b. cond b 1 0) other in
      omega (arith, sum_by-cons (λ (e : Entry). one x e.path) e es, at_most_once x es s.1, here)
] refl

-- ---- what is joined

apart : (first : List Entry) (x : List ℕ) (e : Entry) → list_any (pointwise nat_eq x) (paths first) ≡ true → is_new first e ≡ true →
    pointwise nat_eq x e.path ≡ false
apart first x e there new = elim (pointwise nat_eq x e.path) as (λ b. pointwise nat_eq x e.path ≡ b → b ≡ false) [
  | true ↦ λ same.
      let here : list_any (pointwise nat_eq e.path) (paths first) ≡ true =
      ap (λ y. list_any (pointwise nat_eq y) (paths first)) (sym ((bytes_decides x e.path).0 same)) ∙ there
      in
      absurd (false≢true ((λ i. not (sym here i)) ∙ new))
  | false ↦ λ off. refl
] refl

not_new : (first : List Entry) (x : List ℕ) (es : List Entry) → list_any (pointwise nat_eq x) (paths first) ≡ true → times x (filter (is_new first) es) ≡ 0
not_new first x [] there = refl
not_new first x (e ∷ es) there =
    elim (is_new first e) as (λ b. is_new first e ≡ b → times x (cond b (e ∷ filter (is_new first) es) (filter (is_new first) es)) ≡ 0) [
      | true ↦ λ new.
          let off : pointwise nat_eq x e.path ≡ false = apart first x e there new in
          sum_by-cons (λ (e : Entry). one x e.path) e (filter (is_new first) es) ∙ (λ i. cond (off i) 1 0 + not_new first x es there i)
      | false ↦ λ old. not_new first x es there
    ] refl

fewer : (x : List ℕ) (p : Entry → Bool) (es : List Entry) → times x (filter p es) ≤ times x es
fewer x p [] = omega arith
fewer x p (e ∷ es) = elim (p e) as (λ b. times x (cond b (e ∷ filter p es) (filter p es)) ≤ times x (e ∷ es)) [
  | true ↦ omega (arith, fewer x p es, sum_by-cons (λ (e : Entry). one x e.path) e (filter p es), sum_by-cons (λ (e : Entry). one x e.path) e es)
  | false ↦ omega (arith, fewer x p es, sum_by-cons (λ (e : Entry). one x e.path) e es)
]

-- each path once
once : (first second : List Entry) (x : List ℕ) → IsStrictlySortedBy path_cmp (paths first) → IsStrictlySortedBy path_cmp (paths second) →
    times x (first ++ filter (is_new first) second) ≤ 1
once first second x s t =
    let parts = sum_by-append (λ (e : Entry). one x e.path) first (filter (is_new first) second) in
    elim (list_any (pointwise nat_eq x) (paths first)) as
    (λ b. list_any (pointwise nat_eq x) (paths first) ≡ b → times x (first ++ filter (is_new first) second) ≤ 1) [
      | true ↦ λ there. omega (arith, parts, at_most_once x first s, not_new first x second there)
      | false ↦ λ off. omega (arith, parts, none x first off, fewer x (is_new first) second, at_most_once x second t)
    ] refl

-- the entries that were put one after the other, the second without the paths of the first, and then in order
pub joined : (first second list : List Entry) → IsStrictlySortedBy path_cmp (paths first) → IsStrictlySortedBy path_cmp (paths second) →
    IsPermutation (first ++ filter (is_new first) second) list → IsSortedByKey (λ e. e.path) path_cmp list → IsJoined first second list
joined first second list s t moves sorted = record {
  ascend = rises list sorted (λ x.
      omega (arith, once first second x s t, sum_by-IsPermutation (λ (e : Entry). one x e.path) (first ++ filter (is_new first) second) list moves));
  all = moves;
}

-- ---- what one pass picks

and_not_false : (b : Bool) → (b && not false) ≡ b
and_not_false true = refl
and_not_false false = refl

pub picks_all : (top : List ℕ) (wanted : List (List ℕ)) (es : List Entry) → filter (picks_but top wanted []) es ≡ filter (picks top wanted) es
picks_all top wanted [] = refl
picks_all top wanted (e ∷ es) = λ i. cond (and_not_false (picks top wanted e) i) (e ∷ picks_all top wanted es i) (picks_all top wanted es i)

pub picks_new : (top : List ℕ) (wanted : List (List ℕ)) (first es : List Entry) →
    filter (picks_but top wanted (paths first)) es ≡ filter (is_new first) (filter (picks top wanted) es)
picks_new top wanted first [] = refl
picks_new top wanted first (e ∷ es) =
    elim (picks top wanted e) as (λ b.
    cond (b && is_new first e) (e ∷ filter (picks_but top wanted (paths first)) es) (filter (picks_but top wanted (paths first)) es)
    ≡ filter (is_new first) (cond b (e ∷ filter (picks top wanted) es) (filter (picks top wanted) es))) [
      | true ↦ λ i. cond (is_new first e) (e ∷ picks_new top wanted first es i) (picks_new top wanted first es i)
      | false ↦ picks_new top wanted first es
    ]

-- ---- step by step

-- what was added of the first list, the paths of that, what was added of the second, and the list in order
pub record Steps (first_top second_top : List ℕ) (of_first of_second : List (List ℕ)) (left right one_list : List Entry) (given : List (List ℕ))
    (both list : List Entry) : Type 0 where
  pub first : one_list ≡ filter (picks_but first_top of_first []) left
  pub given_are : given ≡ paths one_list
  pub second : both ≡ one_list ++ filter (picks_but second_top of_second given) right
  pub moved : IsPermutation both list
  pub sorted : IsSortedByKey (λ e. e.path) path_cmp list
  pub left_ascends : IsStrictlySortedBy path_cmp (paths left)
  pub right_ascends : IsStrictlySortedBy path_cmp (paths right)

pub given_ascend : (top : List ℕ) (of_first : List (List ℕ)) (left one_list : List Entry) (given : List (List ℕ)) →
    one_list ≡ filter (picks_but top of_first []) left →
    given ≡ paths one_list → IsStrictlySortedBy path_cmp (paths left) → IsStrictlySortedBy path_cmp given
given_ascend top of_first left one_list given is are s =
    subst (IsStrictlySortedBy path_cmp) (sym (are ∙ ap paths is)) (order_kept (picks_but top of_first []) left s)

pub by_steps : (first_top second_top : List ℕ) (of_first of_second : List (List ℕ)) (left right one_list : List Entry) (given : List (List ℕ))
    (both list : List Entry) →
    Steps first_top second_top of_first of_second left right one_list given both list →
    IsJoined (filter (picks first_top of_first) left) (filter (picks second_top of_second) right) list
by_steps first_top second_top of_first of_second left right one_list given both list s =
    let first = filter (picks first_top of_first) left in
    let second = filter (picks second_top of_second) right in
    let one_is : one_list ≡ first = s.first ∙ picks_all first_top of_first left in
    let paths_are : given ≡ paths first = s.given_are ∙ ap paths one_is in
    let both_are : both ≡ first ++ filter (is_new first) second =
    s.second ∙ (λ i. one_is i ++ filter (picks_but second_top of_second (paths_are i)) right) ∙ ap (λ l. first ++ l)
    (picks_new second_top of_second first right)
    in
    joined first second list (order_kept (picks first_top of_first) left s.left_ascends) (order_kept (picks second_top of_second) right s.right_ascends)
    (subst (λ l. IsPermutation l list) both_are s.moved) s.sorted
