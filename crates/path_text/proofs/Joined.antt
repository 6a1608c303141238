-- A path and a name make a path.
use Rattle.path_text.proofs.Prelude.{◌≡◌, ◌≢◌, ℕ, ◌+◌, ◌<◌, ◌≤◌, Bool, true, false, not, ◌&&◌, ◌||◌, List, [], ◌∷◌, ◌++◌, length, drop, refl, ap, ◌∙◌, arith}
use Rattle.path_text.proofs.Prelude.{Option, Some, None, cond, eqb, length-append, slice_split, onto_first, list_any, length-slice_split, nat_tests, PathError}
use Rattle.path_text.proofs.Prelude.{is_slash, name_fault, first_fault, refusal, is_name, joined}
use Rattle.std.specs.Option.{is_none}
use Rattle.std.specs.Bool.{IsTrue}

pub some_part : (xs : List ℕ) → 0 < length (slice_split is_slash xs)
some_part xs = omega (arith, length-slice_split is_slash xs)

onto_append : (x : ℕ) (ps qs : List (List ℕ)) → 0 < length ps → onto_first x (ps ++ qs) ≡ onto_first x ps ++ qs
onto_append x [] qs h = absurd (omega arith)
onto_append x (p ∷ ps) qs h = refl

-- the parts before a slash and those behind it
pub split_more : (xs ys : List ℕ) → slice_split is_slash (xs ++ 47 ∷ ys) ≡ slice_split is_slash xs ++ slice_split is_slash ys
split_more [] ys = refl
split_more (x ∷ xs) ys =
    let rest = split_more xs ys in
    elim (is_slash x) as (λ b. cond b ([] ∷ slice_split is_slash (xs ++ 47 ∷ ys)) (onto_first x (slice_split is_slash (xs ++ 47 ∷ ys)))
    ≡ cond b ([] ∷ slice_split is_slash xs) (onto_first x (slice_split is_slash xs)) ++ slice_split is_slash ys) [
      | true ↦ ap (λ r. [] ∷ r) rest
      | false ↦ ap (onto_first x) rest ∙ onto_append x _ _ (some_part xs)
    ]

pub split_name : (n : List ℕ) → list_any is_slash n ≡ false → slice_split is_slash n ≡ n ∷ []
split_name [] h = refl
split_name (x ∷ n) h =
    elim (is_slash x) as (λ b. (b || list_any is_slash n) ≡ false → cond b ([] ∷ slice_split is_slash n) (onto_first x (slice_split is_slash n))
    ≡ (x ∷ n) ∷ []) [
      | true ↦ λ e. cc
      | false ↦ λ e. ap (onto_first x) (split_name n e)
    ] h

first_fault-append : (as' bs : List (List ℕ)) → first_fault as' ≡ None → first_fault (as' ++ bs) ≡ first_fault bs
first_fault-append [] bs h = refl
first_fault-append (n ∷ as') bs h =
    elim (name_fault n) as (λ f. cond (is_none f) (first_fault as') f ≡ None → cond (is_none f) (first_fault (as' ++ bs)) f ≡ first_fault bs) [
      | None ↦ λ e. first_fault-append as' bs e
      | Some x ↦ λ e. cc
    ] h

pub one_name : (n : List ℕ) → name_fault n ≡ None → first_fault (n ∷ []) ≡ None
one_name n e = rw e

pub behind : (bytes : List ℕ) → length bytes + 1 ≤ 4095 → first_fault (slice_split is_slash bytes) ≡ None → refusal (47 ∷ bytes) ≡ None
behind bytes l h = grind (arith, nat_tests)

pub is_name_parts : (a : Bool) (f : Option PathError) → (not a && is_none f) ≡ true → (a ≡ false) × (f ≡ None)
is_name_parts true f e = cc
is_name_parts false None e = (refl, refl)
is_name_parts false (Some x) e = cc

pub first_slash : (b : ℕ) (bytes : List ℕ) → refusal (b ∷ bytes) ≡ None → b ≡ 47
first_slash b bytes h = grind (arith, nat_tests)

pub names_fine : (b : ℕ) (bytes : List ℕ) → refusal (b ∷ bytes) ≡ None → 0 < length bytes → first_fault (slice_split is_slash bytes) ≡ None
names_fine b bytes h l = grind (arith, nat_tests)

below_root : (b c : ℕ) (bytes n : List ℕ) → joined (b ∷ c ∷ bytes) n ≡ b ∷ (c ∷ bytes ++ 47 ∷ n)
below_root b c bytes n = grind (arith, nat_tests)

pub refusal_joined : (p n : List ℕ) → refusal p ≡ None → first_fault (slice_split is_slash n) ≡ None → length (joined p n) ≤ 4095 → refusal (joined p n) ≡ None
refusal_joined [] n h g l = cc
refusal_joined (b ∷ []) n h g l = rw (first_slash b [] h) (behind n (omega arith) g)
refusal_joined (b ∷ c ∷ bytes) n h g l =
    let fine : first_fault (slice_split is_slash (c ∷ bytes)) ≡ None = names_fine b (c ∷ bytes) h (omega arith) in
    let short : length (c ∷ bytes ++ 47 ∷ n) + 1 ≤ 4095 = omega (arith, ap length (below_root b c bytes n)) in
    ap refusal (below_root b c bytes n) ∙ ap (λ x. refusal (x ∷ (c ∷ bytes ++ 47 ∷ n))) (first_slash b (c ∷ bytes) h)
    ∙ behind (c ∷ bytes ++ 47 ∷ n) short
    (ap first_fault (split_more (c ∷ bytes) n) ∙ first_fault-append (slice_split is_slash (c ∷ bytes)) (slice_split is_slash n) fine ∙ g)

-- what a path and more names make is a path
pub made : (p n t : List ℕ) → t ≡ joined p n → refusal p ≡ None → first_fault (slice_split is_slash n) ≡ None → length (joined p n) ≤ 4095 → refusal t ≡ None
made p n t e h g l = ap refusal e ∙ refusal_joined p n h g l

-- one name has no fault
pub name_alone : (n : List ℕ) → IsTrue (is_name n) → first_fault (slice_split is_slash n) ≡ None
name_alone n h = let parts = is_name_parts (list_any is_slash n) (name_fault n) h in ap first_fault (split_name n parts.0) ∙ one_name n parts.1

-- the names of a path other than `/` have none
pub names_alone : (p : List ℕ) → refusal p ≡ None → length p ≢ 1 → first_fault (slice_split is_slash (drop 1 p)) ≡ None
names_alone [] h l = cc
names_alone (b ∷ []) h l = absurd (l refl)
names_alone (b ∷ c ∷ bytes) h l = names_fine b (c ∷ bytes) h (omega arith)

-- how long it is
pub joined_length : (p n : List ℕ) → length (joined p n) ≡ cond (eqb (length p) 1) (length p + length n) (length p + (length n + 1))
joined_length p n =
    elim (eqb (length p) 1) as (λ b. length (cond b (p ++ n) (p ++ 47 ∷ n)) ≡ cond b (length p + length n) (length p + (length n + 1))) [
      | true ↦ length-append p n
      | false ↦ length-append p (47 ∷ n) ∙ ap (λ k. length p + k) (omega arith)
    ]
