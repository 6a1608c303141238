-- The paths under a path stand together.
use Rattle.path_text.proofs.Prelude.{◌≡◌, ℕ, ◌<◌, Bool, true, false, ◌&&◌, ◌||◌, List, [], ◌∷◌, ◌++◌, length, drop, refl, ap, ◌∙◌, sym, arith, cond}
use Rattle.path_text.proofs.Prelude.{append_assoc, length-append, append-nil, None, ◌==◌, nat_eq, nat_lt, IsTrue, starts_with, slice_split, first_so, second_so}
use Rattle.path_text.proofs.Prelude.{nat_cmp, ordering_then, ordering_reverse, Ordering, Less, Greater, false≢true, nat_tests, is_slash, first_fault, refusal}
use Rattle.path_text.proofs.Prelude.{path_cmp, byte_rank, front, is_under, UnderIsContiguous, path_cmp_total}
use Rattle.path_text.proofs.Preorder.{before_all, less_all}
use Rattle.path_text.proofs.Preordered.{begins, longer}
use Rattle.path_text.proofs.Parts as parts

-- no path comes before itself
pub irreflexive : (x : List ℕ) → path_cmp x x ≡ Less → ⊥
irreflexive x e =
    let d : path_cmp x x ≡ ordering_reverse (path_cmp x x) = path_cmp_total.antisymm x x in
    let g : Less ≡ Greater = sym e ∙ d ∙ ap ordering_reverse e in
    cc

pub one_way : (x y : List ℕ) → path_cmp x y ≡ Less → path_cmp y x ≡ Less → ⊥
one_way x y e d = irreflexive x (path_cmp_total.trans x y x e d)

-- the names of what is under a path, behind its front
pub record IsUnder (x u : List ℕ) : Type 0 where
  pub names : List ℕ
  pub some : 0 < length names
  pub whole : x ≡ front u ++ names

pub names_under : (x u : List ℕ) → IsTrue (is_under x u) → IsUnder x u
names_under x u h =
    let e = begins x (front u) (first_so (starts_with nat_eq x (front u)) _ h) in
    let l = longer (length (front u)) (length x) (second_so (starts_with nat_eq x (front u)) _ h) in
    record {
      names = drop (length (front u)) x;
      some = omega (arith, ap length e, length-append (front u) (drop (length (front u)) x));
      whole = e;
    }

pub less : (m n : ℕ) → m < n → nat_lt m n ≡ true
less m n h = grind (arith, nat_tests)

pub is_under_by : (x u names : List ℕ) → x ≡ front u ++ names → 0 < length names → IsTrue (is_under x u)
is_under_by x u names e h =
    (λ i. (parts.begins x (front u) names e).1 i && nat_lt (length (front u)) (length x))
    ∙ less (length (front u)) (length x) (omega (arith, ap length e, length-append (front u) names))

-- a path is the front of another, or the front begins with it
front_of : (u : List ℕ) → (rest : List ℕ) × (front u ≡ u ++ rest)
front_of u = elim (length u == 1) as (λ b. (rest : List ℕ) × (cond b u (u ++ 47 ∷ []) ≡ u ++ rest)) [
  | true ↦ ([], sym (append-nil u))
  | false ↦
      (47 ∷ [], refl)
]

deeper : (x y u : List ℕ) → IsTrue (is_under x y) → IsTrue (is_under y u) → IsTrue (is_under x u)
deeper x y u h g =
    let inner = names_under x y h in
    let outer = names_under y u g in
    let rest = front_of y in
    let whole : x ≡ front u ++ (outer.names ++ (rest.0 ++ inner.names)) =
    inner.whole ∙ ap (λ f. f ++ inner.names) (rest.1 ∙ ap (λ l. l ++ rest.0) outer.whole) ∙ append_assoc (front u ++ outer.names) rest.0 inner.names
    ∙ append_assoc (front u) outer.names (rest.0 ++ inner.names)
    in
    is_under_by x u (outer.names ++ (rest.0 ++ inner.names)) whole (omega (arith, outer.some, length-append outer.names (rest.0 ++ inner.names)))

-- where they first differ, the front is lower
differs : (a b : ℕ) (p q : Bool) (r : Ordering) → ordering_then (nat_cmp (byte_rank a) (byte_rank b)) r ≡ Less → (a == b && p) ≡ false →
    (r ≡ Less → p ≡ false → q ≡ true) →
    (nat_lt (byte_rank a) (byte_rank b) || (a == b && q)) ≡ true
differs a b p q r e d h = grind (arith, nat_tests)

whole_lower : (f x : List ℕ) → path_cmp f x ≡ Less → starts_with nat_eq x f ≡ false → before_all f x ≡ true
whole_lower [] x e d = absurd (false≢true (sym d))
whole_lower (a ∷ f) [] e d = cc
whole_lower (a ∷ f) (b ∷ x) e d = differs a b (starts_with nat_eq x f) (before_all f x) (path_cmp f x) e d (whole_lower f x)

after_slash : (b : ℕ) (p q : Bool) → (47 == b && p) ≡ false → p ≡ true → (nat_lt (byte_rank 47) (byte_rank b) || (47 == b && q)) ≡ true
after_slash b p q e d = grind (arith, nat_tests)

slash_lower : (u x : List ℕ) → path_cmp u x ≡ Less → starts_with nat_eq x (u ++ 47 ∷ []) ≡ false → before_all (u ++ 47 ∷ []) x ≡ true
slash_lower [] [] e d = cc
slash_lower [] (b ∷ x) e d = after_slash b true false d refl
slash_lower (a ∷ u) [] e d = cc
slash_lower (a ∷ u) (b ∷ x) e d = differs a b (starts_with nat_eq x (u ++ 47 ∷ [])) (before_all (u ++ 47 ∷ []) x) (path_cmp u x) e d (slash_lower u x)

front_lower : (u x : List ℕ) → path_cmp u x ≡ Less → starts_with nat_eq x (front u) ≡ false → before_all (front u) x ≡ true
front_lower u x e =
    elim (length u == 1) as (λ b. starts_with nat_eq x (cond b u (u ++ 47 ∷ [])) ≡ false → before_all (cond b u (u ++ 47 ∷ [])) x ≡ true) [
      | true ↦ whole_lower u x e
      | false ↦ slash_lower u x e
    ]

-- no path ends in a slash but `/`
pub not_front : (u x : List ℕ) → refusal u ≡ None → refusal x ≡ None → x ≡ front u → x ≡ u
not_front [] x v w e = cc
not_front (b ∷ u) x v w e =
    elim (length (b ∷ u) == 1) as (λ t. x ≡ cond t (b ∷ u) (b ∷ (u ++ 47 ∷ [])) → x ≡ b ∷ u) [
      | true ↦ λ e. e
      | false ↦ λ e. absurd (empty_name (parts.rest_of (slice_split is_slash u) (slice_split is_slash []) (parts.both_sides b u [] (ap refusal (sym e) ∙ w))))
    ] e
  where
    empty_name : first_fault ([] ∷ []) ≡ None → ⊥
    empty_name e = cc

between : (u x z : List ℕ) → refusal u ≡ None → refusal x ≡ None → path_cmp u x ≡ Less → path_cmp x z ≡ Less → IsTrue (is_under z u) → IsTrue (is_under x u)
between u x z v w l m h =
    let last = names_under z u h in
    elim (starts_with nat_eq x (front u)) as (λ b. starts_with nat_eq x (front u) ≡ b → IsTrue (is_under x u)) [
      | true ↦ λ e. named (drop (length (front u)) x) (begins x (front u) e)
      | false ↦ λ e. absurd (one_way x z m (ap (λ t. path_cmp t x) last.whole ∙ less_all (front u) last.names x (front_lower u x l e)))
    ] refl
  where
    named : (names : List ℕ) → x ≡ front u ++ names → IsTrue (is_under x u)
    named [] e = absurd (irreflexive u (ap (path_cmp u) (sym (not_front u x v w (e ∙ append-nil (front u)))) ∙ l))
    named (b ∷ names) e = is_under_by x u (b ∷ names) e (omega arith)

pub contiguous : UnderIsContiguous
contiguous = record { between = between; deeper = deeper }
