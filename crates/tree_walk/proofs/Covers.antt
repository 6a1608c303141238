-- Which paths are equal to a path or above it.
use Rattle.tree_walk.proofs.Prelude.{◌≡◌, ℕ, ◌+◌, ◌<◌, ◌≤◌, Bool, true, false, ◌&&◌, ◌||◌, List, [], ◌∷◌, ◌++◌, map, length, refl, ap, ◌∙◌, sym, subst, arith}
use Rattle.tree_walk.proofs.Prelude.{cond, append-nil, length-append, eqb, ◌==◌, nat_lt, AllByRecursion, sum_by, count_by, false≢true, and_parts, nat_tests}
use Rattle.tree_walk.proofs.Prelude.{sum_by-cons, pointwise, bytes_decides, nat_cmp, ordering_then, Ordering, Less, path_cmp, byte_rank, front, before_all}
use Rattle.tree_walk.proofs.Prelude.{precedes, front_of_child, joined, is_in, is_in_some, Apart}
use Rattle.std.specs.List.Sorted.{IsStrictlySortedBy}
use Rattle.tree_walk.proofs.Lined.{Lined}
use Rattle.tree_walk.proofs.Inside.{begins, begins-itself, begins-less, begins-length, at_or_under, is_in_is}

-- whether x is the path p or under it, as a number
abbrev pub covers : List ℕ → List ℕ → ℕ
covers x p = cond (at_or_under x p) 1 0

abbrev pub one : List ℕ → List ℕ → ℕ
one x y = cond (pointwise eqb x y) 1 0

other_byte : (a b c : ℕ) (p q : Bool) → (nat_lt (byte_rank a) (byte_rank b) || (a == b && p)) ≡ true → (b == c) ≡ true → (p ≡ true → q ≡ false) →
    (a == c && q) ≡ false
other_byte a b c p q e d h = grind (arith, nat_tests)

-- what comes behind all of f does not begin with f, nor does what is under it
pub apart : (f y r z : List ℕ) → before_all f y ≡ true → begins (y ++ r) z ≡ true → begins f z ≡ false
apart [] y r z e h = absurd (false≢true e)
apart (a ∷ f) [] r z e h = absurd (false≢true e)
apart (a ∷ f) (b ∷ y) r [] e h = refl
apart (a ∷ f) (b ∷ y) r (c ∷ z) e h =
    let g = and_parts (b == c) (begins (y ++ r) z) h in
    other_byte a b c (before_all f y) (begins f z) e g.0 (λ t. apart f y r z t g.1)

rest_of_front : (p z : List ℕ) → begins (front p) z ≡ true → (r : List ℕ) × (begins (p ++ r) z ≡ true)
rest_of_front p z e =
    elim (length p == 1) as (λ b. begins (cond b p (p ++ 47 ∷ [])) z ≡ true → (r : List ℕ) × (begins (p ++ r) z ≡ true)) [
      | true ↦ λ e. ([], subst (λ l. begins l z ≡ true) (sym (append-nil p)) e)
      | false ↦ λ e. (47 ∷ [], e)
    ] e

-- of two paths that stand in line one covers it at most
pub not_both : (x p q : List ℕ) → precedes p q ≡ true → begins (front q) (front x) ≡ true → begins (front p) (front x) ≡ false
not_both x p q e h = let r = rest_of_front q (front x) h in apart (front p) q r.0 (front x) e r.1

none_behind : (x p : List ℕ) (qs : List (List ℕ)) → begins (front p) (front x) ≡ true → AllByRecursion (λ q. precedes p q ≡ true) qs → sum_by (covers x) qs ≡ 0
none_behind x p [] e h = refl
none_behind x p (q ∷ qs) e h =
    elim (begins (front q) (front x)) as (λ b. begins (front q) (front x) ≡ b → sum_by (covers x) (q ∷ qs) ≡ 0) [
      | true ↦ λ t. absurd (false≢true (sym (not_both x p q h.0 t) ∙ e))
      | false ↦ λ f. let here : covers x q ≡ 0 = ap (λ b. cond b 1 0) f in omega (arith, sum_by-cons (covers x) q qs, here, none_behind x p qs e h.1)
    ] refl

-- of the paths that stand in line one at most covers x
pub one_covers : (x : List ℕ) (ps : List (List ℕ)) → Lined ps → sum_by (covers x) ps ≤ 1
one_covers x [] h = omega arith
one_covers x (p ∷ ps) h =
    elim (begins (front p) (front x)) as (λ b. begins (front p) (front x) ≡ b → sum_by (covers x) (p ∷ ps) ≤ 1) [
      | true ↦ λ t. let here : covers x p ≡ 1 = ap (λ b. cond b 1 0) t in omega (arith, sum_by-cons (covers x) p ps, here, none_behind x p ps t h.0)
      | false ↦ λ f. let here : covers x p ≡ 0 = ap (λ b. cond b 1 0) f in omega (arith, sum_by-cons (covers x) p ps, here, one_covers x ps h.1)
    ] refl

pub child_covers : (x p name : List ℕ) → 0 < length name → begins (front (joined p name)) (front x) ≡ true → begins (front p) (front x) ≡ true
child_covers x p name s e = begins-less (front p) (name ++ 47 ∷ []) (front x) (sym (ap (λ f. begins f (front x)) (front_of_child p name s)) ∙ e)

pub child_not_above : (p name : List ℕ) → 0 < length name → begins (front (joined p name)) (front p) ≡ false
child_not_above p name s =
    elim (begins (front (joined p name)) (front p)) as (λ b. begins (front (joined p name)) (front p) ≡ b → b ≡ false) [
      | true ↦ λ t.
          let whole = ap length (front_of_child p name s) in
          let longer = length-append (front p) (name ++ 47 ∷ []) in
          absurd (omega (arith, begins-length (front (joined p name)) (front p) t, whole, longer, length-append name (47 ∷ [])))
      | false ↦ λ f. refl
    ] refl

no_child_above : (p : List ℕ) (names : List (List ℕ)) → AllByRecursion (λ n. 0 < length n) names → sum_by (covers p) (map (joined p) names) ≡ 0
no_child_above p [] h = refl
no_child_above p (n ∷ names) h =
    let here : covers p (joined p n) ≡ 0 = ap (λ b. cond b 1 0) (child_not_above p n h.0) in
    omega (arith, sum_by-cons (covers p) (joined p n) (map (joined p) names), here, no_child_above p names h.1)

no_child_covers : (x p : List ℕ) (names : List (List ℕ)) → AllByRecursion (λ n. 0 < length n) names → begins (front p) (front x) ≡ false →
    sum_by (covers x) (map (joined p) names) ≡ 0
no_child_covers x p [] h e = refl
no_child_covers x p (n ∷ names) h e =
    elim (begins (front (joined p n)) (front x)) as (λ b. begins (front (joined p n)) (front x) ≡ b → sum_by (covers x) (map (joined p) (n ∷ names)) ≡ 0) [
      | true ↦ λ t. absurd (false≢true (sym e ∙ child_covers x p n h.0 t))
      | false ↦ λ f. let here : covers x (joined p n) ≡ 0 = ap (λ b. cond b 1 0) f in
          omega (arith, sum_by-cons (covers x) (joined p n) (map (joined p) names), here, no_child_covers x p names h.1 e)
    ] refl

-- a path and its children: the path counts itself, and at most one of the children covers x, where the path does
pub covers_falls : (x p : List ℕ) (names : List (List ℕ)) → AllByRecursion (λ n. 0 < length n) names → Lined (map (joined p) names) →
    one x p + sum_by (covers x) (map (joined p) names) ≤ covers x p
covers_falls x p names h l =
    elim (pointwise eqb x p) as (λ b. pointwise eqb x p ≡ b → cond b 1 0 + sum_by (covers x) (map (joined p) names) ≤ covers x p) [
      | true ↦ λ t.
          let same = (bytes_decides x p).0 t in
          let is : sum_by (covers x) (map (joined p) names) ≡ 0 = ap (λ y. sum_by (covers y) (map (joined p) names)) same ∙ no_child_above p names h in
          let here : covers x p ≡ 1 = ap (λ y. cond (begins (front p) (front y)) 1 0) same ∙ ap (λ b. cond b 1 0) (begins-itself (front p)) in
          omega (arith, is, here)
      | false ↦ λ f. elim (begins (front p) (front x)) as (λ b. begins (front p) (front x) ≡ b → 0 + sum_by (covers x) (map (joined p) names) ≤ cond b 1 0) [
        | true ↦ λ t. omega (arith, one_covers x (map (joined p) names) l)
        | false ↦ λ e. omega (arith, no_child_covers x p names h e)
      ] refl
    ] refl

-- ---- paths in order, of which none is under another, stand in line

less_front : (a b : ℕ) (p : Bool) (r : Ordering) (q : Bool) → ordering_then (nat_cmp (byte_rank a) (byte_rank b)) r ≡ Less → (a == b && q) ≡ false →
    (r ≡ Less → q ≡ false → p ≡ true) → (nat_lt (byte_rank a) (byte_rank b) || (a == b && p)) ≡ true
less_front a b p r q e d h = grind (arith, nat_tests)

slash_behind : (b : ℕ) (q : Bool) → (47 == b && true) ≡ false → (nat_lt (byte_rank 47) (byte_rank b) || (47 == b && q)) ≡ true
slash_behind b q e = grind (arith, nat_tests)

whole_front : (p q r : List ℕ) → path_cmp p q ≡ Less → begins p (q ++ r) ≡ false → before_all p q ≡ true
whole_front [] q r e d = absurd (false≢true (sym d))
whole_front (a ∷ p) [] r e d = cc
whole_front (a ∷ p) (b ∷ q) r e d = less_front a b (before_all p q) (path_cmp p q) (begins p (q ++ r)) e d (whole_front p q r)

slash_front : (p q r : List ℕ) → path_cmp p q ≡ Less → begins (p ++ 47 ∷ []) (q ++ r) ≡ false → before_all (p ++ 47 ∷ []) q ≡ true
slash_front [] [] r e d = cc
slash_front [] (b ∷ q) r e d = slash_behind b (before_all [] q) d
slash_front (a ∷ p) [] r e d = cc
slash_front (a ∷ p) (b ∷ q) r e d = less_front a b (before_all (p ++ 47 ∷ []) q) (path_cmp p q) (begins (p ++ 47 ∷ []) (q ++ r)) e d (slash_front p q r)

front_is : (q : List ℕ) → (r : List ℕ) × (front q ≡ q ++ r)
front_is q = elim (length q == 1) as (λ b. (r : List ℕ) × (cond b q (q ++ 47 ∷ []) ≡ q ++ r)) [ true ↦ ([], sym (append-nil q)) | false ↦ (47 ∷ [], refl) ]

pub in_line : (p q : List ℕ) → path_cmp p q ≡ Less → at_or_under q p ≡ false → precedes p q ≡ true
in_line p q e d =
    let f = front_is q in
    elim (length p == 1) as (λ b. begins (cond b p (p ++ 47 ∷ [])) (front q) ≡ false → before_all (cond b p (p ++ 47 ∷ [])) q ≡ true) [
      | true ↦ λ d. whole_front p q f.0 e (subst (λ z. begins p z ≡ false) f.1 d)
      | false ↦ λ d. slash_front p q f.0 e (subst (λ z. begins (p ++ 47 ∷ []) z ≡ false) f.1 d)
    ] d

pub covers-itself : (x : List ℕ) → covers x x ≡ 1
covers-itself x = ap (λ b. cond b 1 0) (begins-itself (front x))

-- the first of them covers no other
not_under : (p : List ℕ) (qs all : List (List ℕ)) → ((x : List ℕ) → covers x p + sum_by (covers x) all ≤ 1) →
    AllByRecursion (λ q. (x : List ℕ) → covers x q ≤ sum_by (covers x) all) qs → AllByRecursion (λ q. at_or_under q p ≡ false) qs
not_under p [] all h g = tt
not_under p (q ∷ qs) all h g = (
  elim (at_or_under q p) as (λ b. at_or_under q p ≡ b → at_or_under q p ≡ false) [
    | true ↦ λ t. let here : covers q p ≡ 1 = ap (λ b. cond b 1 0) t in absurd (omega (arith, here, h q, g.0 q, covers-itself q))
    | false ↦ λ f. f
  ] refl,
  not_under p qs all h g.1,
)

weaker_sum : (q : List ℕ) (qs all : List (List ℕ)) → AllByRecursion (λ r. (x : List ℕ) → covers x r ≤ sum_by (covers x) all) qs →
    AllByRecursion (λ r. (x : List ℕ) → covers x r ≤ sum_by (covers x) (q ∷ all)) qs
weaker_sum q [] all h = tt
weaker_sum q (r ∷ qs) all h = ((λ x. omega (arith, h.0 x, sum_by-cons (covers x) q all)), weaker_sum q qs all h.1)

each_in : (qs : List (List ℕ)) → AllByRecursion (λ q. (x : List ℕ) → covers x q ≤ sum_by (covers x) qs) qs
each_in [] = tt
each_in (q ∷ qs) = ((λ x. omega (arith, sum_by-cons (covers x) q qs)), weaker_sum q qs qs (each_in qs))

line : (p : List ℕ) (qs : List (List ℕ)) → AllByRecursion (λ q. path_cmp p q ≡ Less) qs → AllByRecursion (λ q. at_or_under q p ≡ false) qs →
    AllByRecursion (λ q. precedes p q ≡ true) qs
line p [] h g = tt
line p (q ∷ qs) h g = (in_line p q h.0 g.0, line p qs h.1 g.1)

pub lined : (ps : List (List ℕ)) → IsStrictlySortedBy path_cmp ps → ((x : List ℕ) → sum_by (covers x) ps ≤ 1) → Lined ps
unfolding IsStrictlySortedBy
lined [] s a = tt
lined (p ∷ ps) s a = (
  line p ps s.0 (not_under p ps ps (λ x. omega (arith, a x, sum_by-cons (covers x) p ps)) (each_in ps)),
  lined ps s.1 (λ x. omega (arith, a x, sum_by-cons (covers x) p ps)),
)

-- ---- what is said of paths that are apart, in these terms

counted : (x : List ℕ) (ps : List (List ℕ)) → count_by (is_in x) ps ≡ sum_by (covers x) ps
counted x ps = λ i. sum_by (λ p. cond (is_in_is x p i) 1 0) ps

pub from_apart : (ps : List (List ℕ)) → Apart ps → (x : List ℕ) → sum_by (covers x) ps ≤ 1
from_apart ps a x = omega (arith, a x, counted x ps)

pub to_apart : (ps : List (List ℕ)) → ((x : List ℕ) → sum_by (covers x) ps ≤ 1) → Apart ps
to_apart ps a x = omega (arith, a x, counted x ps)

pub some_covers : (x : List ℕ) (ps : List (List ℕ)) → 1 ≤ sum_by (covers x) ps → is_in_some ps x ≡ true
some_covers x [] h = absurd (omega arith)
some_covers x (p ∷ ps) h =
    elim (at_or_under x p) as (λ b. at_or_under x p ≡ b → (is_in x p || is_in_some ps x) ≡ true) [
      | true ↦ λ t. ap (λ b. b || is_in_some ps x) (is_in_is x p ∙ t)
      | false ↦ λ f. let here : covers x p ≡ 0 = ap (λ b. cond b 1 0) f in
          ap (λ b. b || is_in_some ps x) (is_in_is x p ∙ f) ∙ some_covers x ps (omega (arith, h, sum_by-cons (covers x) p ps, here))
    ] refl
