-- Each chosen path goes, where all that stands under it is chosen and no removal failed.
use Rattle.tree_remove.proofs.Prelude.{◌≡◌, ⊎_elim, ℕ, zero, suc, ◌+◌, ◌<◌, ◌≤◌, Bool, true, false, cond, ◌||◌, ◌&&◌, List, [], ◌∷◌, ◌++◌, length, map, refl}
use Rattle.tree_remove.proofs.Prelude.{ap, ◌∙◌, sym, arith, nat_eq, nat_lt, is_some, get_or, length-append, false≢true, or_left, or_right, nat_tests}
use Rattle.tree_remove.proofs.Prelude.{All-from_recursion, ◌==◌, get, All, AllByRecursion, list_any, pointwise, bytes_decides, is_under, front, Files, far_at}
use Rattle.tree_remove.proofs.Prelude.{is_failed, Fate, unfailed, AreWhole, WholeChoicesGo, Removed, WasChosen, HasUnder}
use Rattle.level_work.specs.declared.items.Fate.TheVariants as fate

abbrev Row : Type 0
Row = List ℕ × Fate

abbrev firsts : List Row → List (List ℕ)
firsts rows = map (λ row. row.0) rows

-- ---- each chosen path goes, where all under it is chosen

-- a row with this path
record At (rows : List Row) (q : List ℕ) : Type 0 where
  place : ℕ
  inside : place < length rows
  is : (d : Row) → (get_or rows place d).0 ≡ q

at_path : (rows : List Row) (q : List ℕ) → list_any (pointwise nat_eq q) (firsts rows) ≡ true → At rows q
at_path [] q e = absurd (false≢true e)
at_path (row ∷ rows) q e =
    elim (pointwise nat_eq q row.0) as (λ b. pointwise nat_eq q row.0 ≡ b → (b || list_any (pointwise nat_eq q) (firsts rows)) ≡ true → At (row ∷ rows) q) [
      | true ↦ λ is _. record { place = zero; inside = omega arith; is = λ d. sym ((bytes_decides q row.0).0 is) }
      | false ↦ λ _ more. let a = at_path rows q more in record { place = suc a.place; inside = omega (arith, a.inside); is = a.is }
    ] refl e

is_listed : (rows : List Row) (k : ℕ) (d : Row) → k < length rows → list_any (pointwise nat_eq (get_or rows k d).0) (firsts rows) ≡ true
is_listed [] k d l = absurd (omega (arith, l))
is_listed (row ∷ rows) zero d l = or_left (pointwise nat_eq row.0 row.0) _ ((bytes_decides row.0 row.0).1 refl)
is_listed (row ∷ rows) (suc k) d l = or_right (pointwise nat_eq (get_or rows k d).0 row.0) _ (is_listed rows k d (omega (arith, l)))

-- no path is longer than this
record Longest (rows : List Row) : Type 0 where
  bound : ℕ
  all : AllByRecursion (λ row. length row.0 ≤ bound) rows

weaker : (rows : List Row) (m n : ℕ) → m ≤ n → AllByRecursion (λ row. length row.0 ≤ m) rows → AllByRecursion (λ row. length row.0 ≤ n) rows
weaker [] m n l h = tt
weaker (row ∷ rows) m n l h = (omega (arith, l, h.0), weaker rows m n l h.1)

longest : (rows : List Row) → Longest rows
longest [] = record { bound = 0; all = tt }
longest (row ∷ rows) =
    let rest = longest rows in
    record { bound = length row.0 + rest.bound; all = (omega arith, weaker rows rest.bound (length row.0 + rest.bound) (omega arith) rest.all) }

longer : (q p : List ℕ) → is_under q p ≡ true → length p < length q
longer q p u = omega (arith, by _ (nat_lt (length (front p)) (length q)) u, front_longer)
  where
    less : (m n : ℕ) → nat_lt m n ≡ true → m < n
    less m n e = grind (arith, nat_tests)

    by : (a b : Bool) → (a && nat_lt (length (front p)) (length q)) ≡ true → length (front p) < length q
    by true b e = less (length (front p)) (length q) e
    by false b e = absurd (false≢true e)

    front_longer : length p ≤ length (front p)
    front_longer = elim (length p == 1) as
        (λ b. length p ≤ length (cond b p (p ++ 47 ∷ []))) [ true ↦ omega arith | false ↦ omega (arith, length-append p (47 ∷ [])) ]

-- what is known of a removal where nothing stands against it
record Whole (rows : List Row) (files after : Files) : Type 0 where
  removed : Removed rows files after
  near : All (λ row. far_at (get files row.0) ≡ 0) rows
  unfailed : All (λ row. is_failed row.1 ≡ false) rows
  whole : AreWhole files (firsts rows)

module _ (rows : List Row) (files after : Files) (w : Whole rows files after) (b : Longest rows) where
  -- a chosen path goes where nothing that was chosen stays under it
  one : (k : ℕ) (d : Row) → k < length rows → ((u : HasUnder after (get_or rows k d).0) → At rows u.what → ⊥) → (get_or rows k d).1 ≡ fate.Done
  one k d l none =
      let was = w.removed.each k d l in
      ⊎_elim (λ is. is)
      (⊎_elim (λ full. absurd (⊎_elim (far was full) under (was.not_empty full).1))
      (λ failed. absurd (false≢true (sym (w.unfailed k d l) ∙ ap is_failed failed))))
      was.no_other
    where
      far : WasChosen files after (get_or rows k d).0 (get_or rows k d).1 → (get_or rows k d).1 ≡ fate.NotEmpty → 0 < far_at (get after (get_or rows k d).0) → ⊥
      far was full some = omega (arith, some, ap far_at (was.kept full), w.near k d l)

      under : HasUnder after (get_or rows k d).0 → ⊥
      under u = elim (list_any (pointwise nat_eq u.what) (firsts rows)) as (λ c. list_any (pointwise nat_eq u.what) (firsts rows) ≡ c → ⊥) [
        | true ↦ λ on. none u (at_path rows u.what on)
        | false ↦ λ off.
            let before : is_some (get files u.what) ≡ true = ap is_some (sym (w.removed.others u.what off)) ∙ u.there in
            false≢true (sym off ∙ w.whole (get_or rows k d).0 u.what (is_listed rows k d l) u.under before)
      ] refl

  goes : (n k : ℕ) (d : Row) → k < length rows → b.bound ≤ length (get_or rows k d).0 + n → (get_or rows k d).1 ≡ fate.Done
  goes zero k d l few = one k d l (λ u a.
      let long = longer u.what (get_or rows k d).0 u.under in
      let fits = All-from_recursion (λ row. length row.0 ≤ b.bound) rows b.all a.place d a.inside in
      omega (arith, few, long, fits, ap length (a.is d)))
  goes (suc m) k d l few = one k d l (λ u a.
      let long = longer u.what (get_or rows k d).0 u.under in
      let done = goes m a.place d a.inside (omega (arith, few, long, ap length (a.is d))) in
      let gone = (w.removed.each a.place d a.inside).gone done in
      false≢true (ap is_some (sym gone) ∙ ap (λ q. is_some (get after q)) (a.is d) ∙ u.there))

pub whole_choices_go : WholeChoicesGo
whole_choices_go rows before after removed whole near none =
    let b = longest rows in
    let w : Whole rows before after = record {
      removed = removed;
      near = near;
      unfailed = All-from_recursion (λ (row : Row). is_failed row.1 ≡ false) rows (unfailed rows none);
      whole = whole;
    } in
    λ k d l. goes rows before after w b b.bound k d l (omega arith)
