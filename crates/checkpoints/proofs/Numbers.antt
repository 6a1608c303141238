-- Left strings numbered in the order of their lists, and where one with a number stands.
use Rattle.checkpoints.proofs.Prelude.{◌≡◌, ℕ, ◌+◌, ◌<◌, List, [], ◌∷◌, ◌++◌, map, length, take, drop, get_or, suc, ap, ◌∙◌, sym, arith, append_assoc, eqb}
use Rattle.checkpoints.proofs.Prelude.{enumerate_from, flat_map, IsSortedBy, IsSortedByKey, is_lt, pointwise, split_at, take_more, drop_more, drop-map}
use Rattle.checkpoints.proofs.Prelude.{length-map, get_or-map, length-append, length-take-le, append-nil, flat_map-append, length-enumerate_from, path_cmp}
use Rattle.checkpoints.proofs.Prelude.{starts_at, Numbered, paths_in, IsPlace}

-- x stands at this place
pub record IsAt {X : Type 0} (xs : List X) (i : ℕ) (x : X) : Type 0 where
  pub inside : i < length xs
  pub is : x ≡ get_or xs i x

pub at_map : {X Y : Type 0} (f : X → Y) (xs : List X) (i : ℕ) (x : X) → i < length xs → x ≡ get_or xs i x → IsAt (map f xs) i (f x)
at_map f xs i x h is = record {
  inside = omega (arith, h, length-map xs f);
  is = ap f is ∙ sym (get_or-map f xs i x (f x) h);
}

pub take_push : {X : Type 0} (xs : List X) (i : ℕ) (x : X) → IsAt xs i x → take (i + 1) xs ≡ take i xs ++ x ∷ []
take_push {X = X} xs i x at = take_more xs i x at.inside ∙ ap (λ (q : X). take i xs ++ q ∷ []) (sym at.is)

pub starts_here : (path : List ℕ) (lefts : Numbered) (at : ℕ) (l : ℕ × List ℕ) → IsAt lefts at l →
    pointwise eqb l.1 path ≡ starts_at path (drop at (paths_in lefts))
starts_here path lefts at l here =
    ap (λ (q : ℕ × List ℕ). pointwise eqb q.1 path) here.is
    ∙ sym (ap (starts_at path) (drop-map (λ (q : ℕ × List ℕ). q.1) at lefts ∙ ap paths_in (drop_more lefts at l here.inside)))

-- ---- strings are put behind others

numbers_on : {X : Type 0} (n : ℕ) (xs ys : List X) → enumerate_from n (xs ++ ys) ≡ enumerate_from n xs ++ enumerate_from (n + length xs) ys
numbers_on n [] ys = ap (λ (k : ℕ). enumerate_from k ys) zero_more
  where
    zero_more : n ≡ n + 0
    zero_more = omega arith
numbers_on {X = X} n (x ∷ xs) ys =
    let next : n + 1 + length xs ≡ n + suc (length xs) = omega arith in
    ap (λ (zs : List (ℕ × X)). (n, x) ∷ zs) (numbers_on (n + 1) xs ys ∙ ap (λ (k : ℕ). enumerate_from (n + 1) xs ++ enumerate_from k ys) next)

-- one string more of a list
pub one_more : (old lefts new : Numbered) (list : List (List ℕ)) (i m : ℕ) (path : List ℕ) → lefts ≡ old ++ enumerate_from (length old) (take i list) →
    new ≡ lefts ++ (m, path) ∷ [] → m ≡ length lefts → IsAt list i path → new ≡ old ++ enumerate_from (length old) (take (i + 1) list)
one_more old lefts new list i m path e put number at =
    let n = length old in
    let front = take i list in
    let place : m ≡ n + length front =
    number ∙ ap length e ∙ length-append old (enumerate_from n front) ∙ ap (λ (k : ℕ). n + k) (length-enumerate_from n front) in
    put ∙ (λ j. e j ++ (place j, path) ∷ []) ∙ append_assoc old (enumerate_from n front) ((n + length front, path) ∷ [])
    ∙ ap (λ (zs : Numbered). old ++ zs) (sym (ap (enumerate_from n) (take_push list i path at) ∙ numbers_on n front (path ∷ [])))

abbrev pub flat_of : List (List (List ℕ)) → List (List ℕ)
flat_of lists = flat_map (λ l. l) lists

flat_next : (lists : List (List (List ℕ))) (i : ℕ) (list : List (List ℕ)) → IsAt lists i list → flat_of (take (i + 1) lists) ≡ flat_of (take i lists) ++ list
flat_next lists i list at =
    ap flat_of (take_push lists i list at)
    ∙ flat_map-append (λ l. l) (take i lists) (list ∷ []) ∙ ap (λ (r : List (List ℕ)). flat_of (take i lists) ++ r) (append-nil list)

-- one list more
pub list_more : (lefts new : Numbered) (lists : List (List (List ℕ))) (i : ℕ) (list : List (List ℕ)) →
    lefts ≡ enumerate_from 0 (flat_map (λ l. l) (take i lists)) → new ≡ lefts ++ enumerate_from (length lefts) list → IsAt lists i list →
    new ≡ enumerate_from 0 (flat_map (λ l. l) (take (i + 1) lists))
list_more lefts new lists i list e put at =
    let flat = flat_of (take i lists) in
    let long : length lefts ≡ 0 + length flat = ap length e ∙ length-enumerate_from 0 flat ∙ zero_less (length flat) in
    put ∙ (λ j. e j ++ enumerate_from (long j) list) ∙ sym (ap (enumerate_from 0) (flat_next lists i list at) ∙ numbers_on 0 flat list)
  where
    zero_less : (n : ℕ) → n ≡ 0 + n
    zero_less n = omega arith

pub sorted_map : {X : Type 0} (f : X → ℕ × List ℕ) (xs : List X) → IsSortedBy (λ x y. is_lt (path_cmp (f x).1 (f y).1)) xs →
    IsSortedByKey (λ l. l.1) path_cmp (map f xs)
sorted_map f [] s = λ k d g h. absurd (omega (arith, h))
sorted_map f (x ∷ xs) s = λ k d g h.
    let inside : k + 1 < length (x ∷ xs) = omega (arith, h, length-map (x ∷ xs) f) in
    let later = get_or-map f (x ∷ xs) (k + 1) x d inside in
    let earlier = get_or-map f (x ∷ xs) k x d (omega (arith, inside)) in
    (λ i. is_lt (path_cmp (later i).1 (earlier i).1)) ∙ s k x (omega arith) inside

-- ---- where a number stands

-- so many lists hold fewer strings than the number, which leaves this much
pub place_found : (lists : List (List (List ℕ))) (rank : ℕ) (list : List (List ℕ)) (left n : ℕ) → IsAt lists rank list →
    n ≡ length (flat_map (λ l. l) (take rank lists)) + left → left < length list → IsPlace lists n rank left
place_found lists rank list left n at number l = record {
  earlier = take rank lists;
  before = take left list;
  path = get_or list left [];
  behind = drop (suc left) list;
  later = drop (suc rank) lists;
  are = split_at lists rank list at.inside
      ∙ ap (λ (q : List (List ℕ)). take rank lists ++ q ∷ drop (suc rank) lists) (sym at.is ∙ split_at list left [] l);
  rank_is = sym (length-take-le rank lists (omega (arith, at.inside)));
  place_is = sym (length-take-le left list (omega (arith, l)));
  number_is = omega (arith, number, length-take-le left list (omega (arith, l)));
}

pub number_more : (lists : List (List (List ℕ))) (rank : ℕ) (list : List (List ℕ)) → IsAt lists rank list →
    length (flat_map (λ l. l) (take (rank + 1) lists)) ≡ length (flat_map (λ l. l) (take rank lists)) + length list
number_more lists rank list at = ap length (flat_next lists rank list at) ∙ length-append (flat_of (take rank lists)) list
