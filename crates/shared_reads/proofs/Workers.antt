-- Readers before, while and after they are workers.
use Rattle.shared_reads.proofs.Prelude.{◌≡◌, ℕ, zero, suc, ◌+◌, ◌-◌, ◌^◌, ◌<◌, false, ◌||◌, List, [], ◌∷◌, ◌++◌, map, length, get_or, refl, sym, subst, ap, ◌∙◌}
use Rattle.shared_reads.proofs.Prelude.{arith, Option, All, Vec, Global, reverse, sum, nat_le, AllByRecursion, sum_by, nat_tests, reverse_onto, map-append}
use Rattle.shared_reads.proofs.Prelude.{sum-map, sum_by-cons, sum_by-append, recursion_from_All, All-from_recursion, list_any-append, Files, Found, Worker}
use Rattle.shared_reads.proofs.Prelude.{NoneFell, is_at_end, RoseTogether, IsTold, all_faults, IsWorked, or_parts}
use Rattle.shared_reads.proofs.Taken.{all_front}

not_le : (m n : ℕ) → nat_le m n ≡ false → n < m
not_le m n e = grind (arith, nat_tests)

-- ---- lists turned round

reverse_cons : {A : Type 0} (x : A) (xs : List A) → reverse (x ∷ xs) ≡ reverse xs ++ x ∷ []
reverse_cons x xs = reverse_onto xs x []

pub map-reverse : {A B : Type 0} (f : A → B) (xs : List A) → map f (reverse xs) ≡ reverse (map f xs)
map-reverse f [] = refl
map-reverse f (x ∷ xs) = ap (map f) (reverse_cons x xs) ∙ map-append f (reverse xs) (x ∷ []) ∙ ap (λ ys. ys ++ f x ∷ []) (map-reverse f xs)
    ∙ sym (reverse_cons (f x) (map f xs))

all_append : {A : Type 0} (P : A → Type 0) (xs ys : List A) → AllByRecursion P (xs ++ ys) → AllByRecursion P ys
all_append P [] ys h = h
all_append P (x ∷ xs) ys h = all_append P xs ys h.1

all_turned : {A : Type 0} (P : A → Type 0) (xs : List A) → AllByRecursion P (reverse xs) → AllByRecursion P xs
all_turned P [] h = tt
all_turned P (x ∷ xs) h =
    let g = subst (AllByRecursion P) (reverse_cons x xs) h in
    ((all_append P (reverse xs) (x ∷ []) g).0, all_turned P xs (all_front P (reverse xs) (x ∷ []) g))

all_both : {A : Type 0} (P : A → Type 0) (xs ys : List A) → AllByRecursion P xs → AllByRecursion P ys → AllByRecursion P (xs ++ ys)
all_both P [] ys h g = g
all_both P (x ∷ xs) ys h g = (h.0, all_both P xs ys h.1 g)

all_turning : {A : Type 0} (P : A → Type 0) (xs : List A) → AllByRecursion P xs → AllByRecursion P (reverse xs)
all_turning P [] h = tt
all_turning P (x ∷ xs) h =
    subst (AllByRecursion P) (sym (reverse_cons x xs)) (all_both P (reverse xs) (x ∷ []) (all_turning P xs h.1) (h.0, tt))

all_unmapped : {A B : Type 0} (P : B → Type 0) (f : A → B) (xs : List A) → AllByRecursion P (map f xs) → AllByRecursion (λ x. P (f x)) xs
all_unmapped P f [] h = tt
all_unmapped P f (x ∷ xs) h = (h.0, all_unmapped P f xs h.1)

all_mapped : {A B : Type 0} (P : B → Type 0) (f : A → B) (xs : List A) → AllByRecursion (λ x. P (f x)) xs → AllByRecursion P (map f xs)
all_mapped P f [] h = tt
all_mapped P f (x ∷ xs) h = (h.0, all_mapped P f xs h.1)

-- ---- counts

map_id : (xs : List ℕ) → map (λ x. x) xs ≡ xs
map_id [] = refl
map_id (x ∷ xs) = ap (λ ys. x ∷ ys) (map_id xs)

sum_id : (xs : List ℕ) → sum xs ≡ sum_by (λ x. x) xs
sum_id xs = ap sum (sym (map_id xs)) ∙ sum-map (λ x. x) xs

sum-cons : (x : ℕ) (xs : List ℕ) → sum (x ∷ xs) ≡ x + sum xs
sum-cons x xs = sum_id (x ∷ xs) ∙ sum_by-cons (λ x. x) x xs ∙ ap (λ n. x + n) (sym (sum_id xs))

sum-append : (xs ys : List ℕ) → sum (xs ++ ys) ≡ sum xs + sum ys
sum-append [] ys = omega arith
sum-append (x ∷ xs) ys = omega (arith, sum-cons x (xs ++ ys), sum-cons x xs, sum-append xs ys)

sum-reverse : (xs : List ℕ) → sum (reverse xs) ≡ sum xs
sum-reverse [] = refl
sum-reverse (x ∷ xs) = ap sum (reverse_cons x xs) ∙ sum-append (reverse xs) (x ∷ []) ∙ omega (arith, sum-cons x [], sum-cons x xs, sum-reverse xs)

at_end-reverse : (xs : List ℕ) → is_at_end (reverse xs) ≡ false → is_at_end xs ≡ false
at_end-reverse [] e = refl
at_end-reverse (x ∷ xs) e =
    let g = or_parts (is_at_end (reverse xs)) (is_at_end (x ∷ []))
    (sym (list_any-append (nat_le (2 ^ 64 - 1)) (reverse xs) (x ∷ [])) ∙ ap is_at_end (sym (reverse_cons x xs)) ∙ e) in
    let h = (or_parts (nat_le (2 ^ 64 - 1) x) false g.1).0 in
    ap (λ b. b || is_at_end xs) h ∙ at_end-reverse xs g.0

fell-append : (a b c d : List ℕ) → NoneFell a b → NoneFell c d → NoneFell (a ++ c) (b ++ d)
fell-append [] [] c d h g = g
fell-append [] (y ∷ b) c d h g = absurd h
fell-append (x ∷ a) [] c d h g = absurd h
fell-append (x ∷ a) (y ∷ b) c d h g = (h.0, fell-append a b c d h.1 g)

fell-reverse : (a b : List ℕ) → NoneFell a b → NoneFell (reverse a) (reverse b)
fell-reverse [] [] h = tt
fell-reverse [] (y ∷ b) h = absurd h
fell-reverse (x ∷ a) [] h = absurd h
fell-reverse (x ∷ a) (y ∷ b) h =
    subst (λ r. NoneFell r (reverse (y ∷ b))) (sym (reverse_cons x a))
    (subst (λ r. NoneFell (reverse a ++ x ∷ []) r) (sym (reverse_cons y b))
    (fell-append (reverse a) (reverse b) (x ∷ []) (y ∷ []) (fell-reverse a b h.1) (h.0, tt)))

fell-same : (a : List ℕ) → NoneFell a a
fell-same [] = tt
fell-same (x ∷ a) = (omega arith, fell-same a)

abbrev pub readers_of : {R O : Type 0} → List (Worker R O) → List R
readers_of workers = map (λ w. w.reader) workers

abbrev pub lists_of : {R O : Type 0} → List (Worker R O) → List (Vec (Found O) Global)
lists_of workers = map (λ w. w.found) workers

pub NoneFell-same : (counts : List ℕ) → NoneFell counts counts
NoneFell-same counts = fell-same counts

module _ {R O : Type 0} (tree : R → Option Files) (count : R → ℕ) (told : Option Files → ℕ → O → Type 0) (faults : O → ℕ) where
  abbrev counts_of : List (Worker R O) → List ℕ
  counts_of workers = map (λ w. count w.reader) workers

  abbrev trees_of : List (Worker R O) → List (Option Files)
  trees_of workers = map (λ w. tree w.reader) workers

  abbrev Each : List (Worker R O) → List (Worker R O) → Type 0
  Each ws ws' = (k : ℕ) (d : Worker R O) → k < length ws → IsWorked tree count told faults (get_or ws k d) (get_or ws' k d)

  -- how many failed reads all workers tell
  abbrev told_by : List (Worker R O) → ℕ
  told_by workers = sum_by (λ (w : Worker R O). all_faults faults w.found.items) workers

  rest : (w w' : Worker R O) (ws ws' : List (Worker R O)) → Each (w ∷ ws) (w' ∷ ws') → Each ws ws'
  rest w w' ws ws' each k d h = each (suc k) d (omega arith)

  worked_trees : (ws ws' : List (Worker R O)) → length ws' ≡ length ws → Each ws ws' → trees_of ws' ≡ trees_of ws
  worked_trees [] [] l each = refl
  worked_trees [] (w' ∷ ws') l each = absurd (omega arith)
  worked_trees (w ∷ ws) [] l each = absurd (omega arith)
  worked_trees (w ∷ ws) (w' ∷ ws') l each = λ i. (each zero w (omega arith)).same i ∷ worked_trees ws ws' (omega arith) (rest w w' ws ws' each) i

  worked_fell : (ws ws' : List (Worker R O)) → length ws' ≡ length ws → Each ws ws' → NoneFell (counts_of ws) (counts_of ws')
  worked_fell [] [] l each = tt
  worked_fell [] (w' ∷ ws') l each = absurd (omega arith)
  worked_fell (w ∷ ws) [] l each = absurd (omega arith)
  worked_fell (w ∷ ws) (w' ∷ ws') l each = ((each zero w (omega arith)).counted.kept, worked_fell ws ws' (omega arith) (rest w w' ws ws' each))

  worked_rose : (ws ws' : List (Worker R O)) → length ws' ≡ length ws → Each ws ws' → RoseTogether (told_by ws') (counts_of ws) (counts_of ws')
  worked_rose [] [] l each = λ e. omega arith
  worked_rose [] (w' ∷ ws') l each = absurd (omega arith)
  worked_rose (w ∷ ws) [] l each = absurd (omega arith)
  worked_rose (w ∷ ws) (w' ∷ ws') l each = λ e.
      let g = or_parts (nat_le (2 ^ 64 - 1) (count w'.reader)) (is_at_end (counts_of ws')) e in
      let low : count w'.reader < 2 ^ 64 - 1 = not_le (2 ^ 64 - 1) (count w'.reader) g.0 in
      let rose = (each zero w (omega arith)).counted.rose in
      let later = worked_rose ws ws' (omega arith) (rest w w' ws ws' each) g.1 in
      omega (
        arith,
        sum-cons (count w.reader) (counts_of ws),
        sum-cons (count w'.reader) (counts_of ws'),
        sum_by-cons (λ (w : Worker R O). all_faults faults w.found.items) w' ws',
      )

  -- ---- from readers to workers and back

  -- what is told of the readers, once those of the workers are back
  told-back : {A : Type 0} (told : R → A) (left : List R) (ws : List (Worker R O))
      → map told (left ++ reverse (readers_of ws)) ≡ map told left ++ reverse (map (λ (w : Worker R O). told w.reader) ws)
  told-back told left ws = map-append told left (reverse (readers_of ws))
      ∙ ap (λ xs. map told left ++ xs) (map-reverse told (readers_of ws) ∙ ap reverse (twice ws))
    where
      twice : (ws : List (Worker R O)) → map told (readers_of ws) ≡ map (λ (w : Worker R O). told w.reader) ws
      twice [] = refl
      twice (w ∷ ws) = ap (λ xs. told w.reader ∷ xs) (twice ws)

  -- workers that are hired and dismissed
  module _ (left readers new : List R) (ws ws' : List (Worker R O)) (lent : left ++ reverse (readers_of ws) ≡ readers)
      (back : new ≡ left ++ reverse (readers_of ws')) (as_many : length ws' ≡ length ws) (each : Each ws ws') where
    pub same_trees : map tree new ≡ map tree readers
    same_trees = ap (map tree) back ∙ told-back tree left ws' ∙ ap (λ ts. map tree left ++ reverse ts) (worked_trees ws ws' as_many each)
        ∙ sym (told-back tree left ws) ∙ ap (map tree) lent

    pub none_fell : NoneFell (map count readers) (map count new)
    none_fell =
        subst (λ r. NoneFell (map count r) (map count new)) lent (subst (λ r. NoneFell (map count (left ++ reverse (readers_of ws))) (map count r)) (sym back)
        (subst (λ r. NoneFell r (map count (left ++ reverse (readers_of ws')))) (sym (told-back count left ws))
        (subst (NoneFell (map count left ++ reverse (counts_of ws))) (sym (told-back count left ws'))
        (fell-append (map count left) (map count left) (reverse (counts_of ws)) (reverse (counts_of ws')) (fell-same (map count left))
        (fell-reverse (counts_of ws) (counts_of ws') (worked_fell ws ws' as_many each))))))

    all_rose : RoseTogether (told_by ws') (map count readers) (map count new)
    all_rose = λ no.
        let counts : map count new ≡ map count left ++ reverse (counts_of ws') = ap (map count) back ∙ told-back count left ws' in
        let were : map count readers ≡ map count left ++ reverse (counts_of ws) = ap (map count) (sym lent) ∙ told-back count left ws in
        let ends = or_parts (is_at_end (map count left)) (is_at_end (reverse (counts_of ws')))
        (sym (list_any-append (nat_le (2 ^ 64 - 1)) (map count left) (reverse (counts_of ws'))) ∙ ap is_at_end (sym counts) ∙ no) in
        let more = worked_rose ws ws' as_many each (at_end-reverse (counts_of ws') ends.1) in
        let a : sum (map count new) ≡ sum (map count left) + sum (counts_of ws') = ap sum counts
        ∙ sum-append (map count left) (reverse (counts_of ws')) ∙ ap (λ n. sum (map count left) + n) (sum-reverse (counts_of ws')) in
        let b : sum (map count readers) ≡ sum (map count left) + sum (counts_of ws) = ap sum were
        ∙ sum-append (map count left) (reverse (counts_of ws)) ∙ ap (λ n. sum (map count left) + n) (sum-reverse (counts_of ws)) in
        omega arith

    module _ (lists : List (Vec (Found O) Global)) (kept : lists ≡ reverse (lists_of ws')) where
      told_lists : (ws : List (Worker R O)) → sum_by (λ (v : Vec (Found O) Global). all_faults faults v.items) (reverse (lists_of ws)) ≡ told_by ws
      told_lists [] = refl
      told_lists (w ∷ ws) =
          omega (
            arith,
            ap (sum_by (λ (v : Vec (Found O) Global). all_faults faults v.items)) (reverse_cons w.found (lists_of ws)),
            sum_by-append (λ (v : Vec (Found O) Global). all_faults faults v.items) (reverse (lists_of ws)) (w.found ∷ []),
            sum_by-cons (λ (v : Vec (Found O) Global). all_faults faults v.items) w.found [],
            sum_by-cons (λ (w : Worker R O). all_faults faults w.found.items) w ws,
            told_lists ws,
          )

      pub counted : RoseTogether (sum_by (λ (v : Vec (Found O) Global). all_faults faults v.items) lists) (map count readers) (map count new)
      counted = subst (λ n. RoseTogether n (map count readers) (map count new))
          (sym (ap (sum_by (λ (v : Vec (Found O) Global). all_faults faults v.items)) kept ∙ told_lists ws')) all_rose

      pub holds : (now : Option Files) → All (λ r. tree r ≡ now) readers → All (λ (v : Vec (Found O) Global). All (IsTold (told now)) v.items) lists
      holds now same =
          subst (All (λ (v : Vec (Found O) Global). All (IsTold (told now)) v.items)) (sym kept)
          (All-from_recursion (λ (v : Vec (Found O) Global). All (IsTold (told now)) v.items) (reverse (lists_of ws'))
          (all_turning (λ (v : Vec (Found O) Global). All (IsTold (told now)) v.items) (lists_of ws')
          (all_mapped (λ (v : Vec (Found O) Global). All (IsTold (told now)) v.items) (λ w. w.found) ws'
          (recursion_from_All (λ (w : Worker R O). All (IsTold (told now)) w.found.items) ws'
          (λ k d l.
          subst (λ (t : Option Files). All (IsTold (told t)) (get_or ws' k d).found.items) (own k d (omega arith)) (each k d (omega arith)).found)))))
        where
          own : All (λ (w : Worker R O). tree w.reader ≡ now) ws
          own =
              let g = subst (AllByRecursion (λ r. tree r ≡ now)) (sym lent) (recursion_from_All (λ r. tree r ≡ now) readers same) in
              All-from_recursion (λ (w : Worker R O). tree w.reader ≡ now) ws
              (all_unmapped (λ r. tree r ≡ now) (λ w. w.reader) ws
              (all_turned (λ r. tree r ≡ now) (readers_of ws) (all_append (λ r. tree r ≡ now) left (reverse (readers_of ws)) g)))
