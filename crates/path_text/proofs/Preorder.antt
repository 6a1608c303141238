-- Path order is preorder: a path comes before its children, they come in the order of their names, and all that is under a path comes before what follows it.
use Rattle.path_text.proofs.Prelude.{◌≡◌, ℕ, ◌<◌, Bool, true, false, not, ◌&&◌, ◌||◌, List, [], ◌∷◌, ◌++◌, length, refl, ap, ◌∙◌, sym, subst, arith, cond}
use Rattle.path_text.proofs.Prelude.{append_assoc, append-nil, length-append, false≢true, or_parts, ◌==◌, nat_lt, list_any, nat_cmp, ordering_then, Ordering}
use Rattle.path_text.proofs.Prelude.{Less, slice_cmp, nat_tests, path_cmp, byte_rank, front, is_slash, joined, is_name}
use Rattle.std.specs.Bool.{IsTrue}

-- all that begins with `front` comes before y: they first differ at a byte that is lower in `front`
abbrev pub before_all : List ℕ → List ℕ → Bool
before_all [] y = false
before_all (a ∷ front) [] = false
before_all (a ∷ front) (b ∷ y) = nat_lt (byte_rank a) (byte_rank b) || (a == b && before_all front y)

-- the path and all that is under it come before y
abbrev pub precedes : List ℕ → List ℕ → Bool
precedes path y = before_all (front path) y

lower : (a b : ℕ) (p : Bool) (rest : Ordering) → (nat_lt (byte_rank a) (byte_rank b) || (a == b && p)) ≡ true → (p ≡ true → rest ≡ Less) →
    ordering_then (nat_cmp (byte_rank a) (byte_rank b)) rest ≡ Less
lower a b p rest e h = grind (arith, nat_tests)

-- all that begins with the front is lower
pub less_all : (f r y : List ℕ) → before_all f y ≡ true → path_cmp (f ++ r) y ≡ Less
less_all [] r y e = absurd (false≢true e)
less_all (a ∷ f) r [] e = absurd (false≢true e)
less_all (a ∷ f) r (b ∷ y) e = lower a b (before_all f y) (path_cmp (f ++ r) y) e (less_all f r y)

-- the path itself is lower
less_path : (x y : List ℕ) → before_all (x ++ 47 ∷ []) y ≡ true → path_cmp x y ≡ Less
less_path [] [] e = absurd (false≢true e)
less_path [] (b ∷ y) e = refl
less_path (a ∷ x) [] e = absurd (false≢true e)
less_path (a ∷ x) (b ∷ y) e = lower a b (before_all (x ++ 47 ∷ []) y) (path_cmp x y) e (less_path x y)

pub precedes-Less : (x y : List ℕ) → precedes x y ≡ true → path_cmp x y ≡ Less
precedes-Less x y e =
    elim (length x == 1) as (λ b. before_all (cond b x (x ++ 47 ∷ [])) y ≡ true → path_cmp x y ≡ Less) [
      | true ↦ λ e. subst (λ l. path_cmp l y ≡ Less) (append-nil x) (less_all x [] y e)
      | false ↦ less_path x y
    ] e

goes_on : (c p q : Bool) → (p ≡ true → q ≡ true) → (a b : ℕ) → (c || (a == b && p)) ≡ true → (c || (a == b && q)) ≡ true
goes_on true p q h a b e = refl
goes_on false p q h a b e =
    elim (a == b) as (λ s. (s && p) ≡ true → (s && q) ≡ true) [ true ↦ h | false ↦ λ e. e ] e

-- a longer front
pub before_all-longer : (f r y : List ℕ) → before_all f y ≡ true → before_all (f ++ r) y ≡ true
before_all-longer [] r y e = absurd (false≢true e)
before_all-longer (a ∷ f) r [] e = absurd (false≢true e)
before_all-longer (a ∷ f) r (b ∷ y) e = goes_on (nat_lt (byte_rank a) (byte_rank b)) (before_all f y) (before_all (f ++ r) y) (before_all-longer f r y) a b e

same_byte : (a : ℕ) (c p : Bool) → p ≡ true → (c || (a == a && p)) ≡ true
same_byte a true p e = refl
same_byte a false p e = grind (arith, nat_tests)

-- behind the same front
before_all-behind : (f g y : List ℕ) → before_all g y ≡ true → before_all (f ++ g) (f ++ y) ≡ true
before_all-behind [] g y e = e
before_all-behind (a ∷ f) g y e = same_byte a (nat_lt (byte_rank a) (byte_rank a)) (before_all (f ++ g) (f ++ y)) (before_all-behind f g y e)

slash_first : (b : ℕ) (p : Bool) → is_slash b ≡ false → (nat_lt (byte_rank 47) (byte_rank b) || p) ≡ true
slash_first b p e = grind (arith, nat_tests)

higher_name : (a b : ℕ) (p : Bool) (rest : Ordering) → is_slash a ≡ false → is_slash b ≡ false → ordering_then (nat_cmp a b) rest ≡ Less →
    (rest ≡ Less → p ≡ true) → (nat_lt (byte_rank a) (byte_rank b) || (a == b && p)) ≡ true
higher_name a b p rest s t e h = grind (arith, nat_tests)

-- names without a slash, in the order of their bytes
names_before : (m n : List ℕ) → list_any is_slash m ≡ false → list_any is_slash n ≡ false → slice_cmp nat_cmp m n ≡ Less → before_all (m ++ 47 ∷ []) n ≡ true
names_before [] [] s t e = cc
names_before [] (b ∷ n) s t e = slash_first b _ (or_parts (is_slash b) (list_any is_slash n) t).0
names_before (a ∷ m) [] s t e = cc
names_before (a ∷ m) (b ∷ n) s t e =
    let l = or_parts (is_slash a) (list_any is_slash m) s in
    let r = or_parts (is_slash b) (list_any is_slash n) t in
    higher_name a b (before_all (m ++ 47 ∷ []) n) (slice_cmp nat_cmp m n) l.0 r.0 e (names_before m n l.1 r.1)

pub self_equal : (a : ℕ) (rest : Ordering) → ordering_then (nat_cmp (byte_rank a) (byte_rank a)) rest ≡ rest
self_equal a rest = grind (arith, nat_tests)

pub prefix_less : (p r : List ℕ) → 0 < length r → path_cmp p (p ++ r) ≡ Less
prefix_less [] [] h = absurd (omega arith)
prefix_less [] (b ∷ r) h = refl
prefix_less (a ∷ p) r h = self_equal a (path_cmp p (p ++ r)) ∙ prefix_less p r h

pub front-joined : (p name : List ℕ) → front p ++ name ≡ joined p name
front-joined p name =
    elim (length p == 1) as (λ b. cond b p (p ++ 47 ∷ []) ++ name ≡ cond b (p ++ name) (p ++ 47 ∷ name)) [ true ↦ refl | false ↦ append_assoc p (47 ∷ []) name ]

-- a path comes before its children
pub child_after : (p name : List ℕ) → 0 < length name → path_cmp p (joined p name) ≡ Less
child_after p name h =
    elim (length p == 1) as (λ b. path_cmp p (cond b (p ++ name) (p ++ 47 ∷ name))
    ≡ Less) [ true ↦ prefix_less p name h | false ↦ prefix_less p (47 ∷ name) (omega arith) ]

pub some_front : (p : List ℕ) → 0 < length (front p)
some_front [] = omega arith
some_front (a ∷ p) = elim (length (a ∷ p) == 1) as (λ b. 0 < length (cond b (a ∷ p) (a ∷ p ++ 47 ∷ []))) [ true ↦ omega arith | false ↦ omega arith ]

pub not_one : (n : ℕ) → 1 < n → (n == 1) ≡ false
not_one n h = grind (arith, nat_tests)

pub front_of_child : (p name : List ℕ) → 0 < length name → front (joined p name) ≡ front p ++ (name ++ 47 ∷ [])
front_of_child p name h =
    let long : 1 < length (joined p name) = omega (arith, sym (ap length (front-joined p name)), length-append (front p) name, some_front p) in
    ap (λ b. cond b (joined p name) (joined p name ++ 47 ∷ [])) (not_one (length (joined p name)) long)
    ∙ ap (λ l. l ++ 47 ∷ []) (sym (front-joined p name)) ∙ append_assoc (front p) name (47 ∷ [])

-- what follows a path follows its children and all that is under them
pub child_precedes : (p name y : List ℕ) → 0 < length name → precedes p y ≡ true → precedes (joined p name) y ≡ true
child_precedes p name y h e = ap (λ f. before_all f y) (front_of_child p name h) ∙ before_all-longer (front p) (name ++ 47 ∷ []) y e

-- siblings come in the order of their names, each with all that is under it
pub sibling_precedes : (p m n : List ℕ) → 0 < length m → list_any is_slash m ≡ false → list_any is_slash n ≡ false → slice_cmp nat_cmp m n ≡ Less →
    precedes (joined p m) (joined p n) ≡ true
sibling_precedes p m n h s t e =
    (λ i. before_all (front_of_child p m h i) (sym (front-joined p n) i)) ∙ before_all-behind (front p) (m ++ 47 ∷ []) n (names_before m n s t e)

-- a name is not empty
pub some_bytes : (name : List ℕ) → IsTrue (is_name name) → 0 < length name
some_bytes [] h = cc
some_bytes (b ∷ name) h = omega arith

-- and holds no slash
pub no_slash : (name : List ℕ) → IsTrue (is_name name) → list_any is_slash name ≡ false
no_slash name h = turned (list_any is_slash name) _ h
  where
    turned : (a b : Bool) → (not a && b) ≡ true → a ≡ false
    turned true b e = cc
    turned false b e = refl
