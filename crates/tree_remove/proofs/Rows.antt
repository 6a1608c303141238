-- Paths with their fates, row by row.
use Rattle.tree_remove.proofs.Prelude.{◌≡◌, ℕ, zero, suc, ◌+◌, Bool, cond, List, [], ◌∷◌, ◌++◌, map, length, drop, Some, refl, ap, ◌∙◌, sym, arith, slice_get}
use Rattle.tree_remove.proofs.Prelude.{append_assoc, append-nil, length-append, length-map, sum_by-cons, zip, count_by, Item, Fate}

abbrev pub Row : Type 0
Row = List ℕ × Fate

abbrev pub rows_of : List Item → List Fate → List Row
rows_of items fates = zip (map (λ x. x.path) items) fates

-- ---- a number of fates is one of rows
pub count_rows : (p : Fate → Bool) (ks : List (List ℕ)) (fates : List Fate) → length fates ≡ length ks
    → count_by p fates ≡ count_by (λ row. p row.1) (zip ks fates)
count_rows p [] [] len = refl
count_rows p [] (f ∷ fates) len = cc
count_rows p (q ∷ ks) [] len = cc
count_rows p (q ∷ ks) (f ∷ fates) len =
    let rest = count_rows p ks fates (omega (arith, len)) in
    omega (arith, rest, sum_by-cons (λ (x : Fate). cond (p x) 1 0) f fates, sum_by-cons (λ (row : List ℕ × Fate). cond (p row.1) 1 0) (q, f) (zip ks fates))

pub count_paths : (p : Fate → Bool) (items : List Item) (fates : List Fate) → length fates ≡ length items
    → count_by p fates ≡ count_by (λ row. p row.1) (rows_of items fates)
count_paths p items fates len = count_rows p (map (λ (x : Item). x.path) items) fates (len ∙ sym (length-map items (λ (x : Item). x.path)))

-- ---- the rows so far, and those of the items that are left

drop_at : (fates : List Fate) (k : ℕ) (f : Fate) → slice_get fates k ≡ Some f → drop k fates ≡ f ∷ drop (suc k) fates
drop_at [] zero f e = cc
drop_at [] (suc k) f e = cc
drop_at (g ∷ fates) zero f e = cc
drop_at (g ∷ fates) (suc k) f e = drop_at fates k f e

pub record SoFar (items left : List Item) (fates : List Fate) (rows : List Row) : Type 0 where
  pub len : length rows + length left ≡ length fates
  pub are : rows ++ rows_of left (drop (length rows) fates) ≡ rows_of items fates

pub one_more : (items before left : List Item) (fates : List Fate) (rows now : List Row) (x : Item) (f : Fate) → before ≡ x ∷ left →
    slice_get fates (length rows) ≡ Some f → now ≡ rows ++ (x.path, f) ∷ [] → SoFar items before fates rows → SoFar items left fates now
one_more items before left fates rows now x f next at is s =
    let n : length now ≡ suc (length rows) = omega (arith, ap length is, length-append rows ((x.path, f) ∷ [])) in
    record {
      len = omega (arith, n, s.len, ap length next);
      are = (λ i. is i ++ rows_of left (drop (n i) fates)) ∙ append_assoc rows ((x.path, f) ∷ []) (rows_of left (drop (suc (length rows)) fates))
          ∙ ap (λ fs. rows ++ rows_of (x ∷ left) fs) (sym (drop_at fates (length rows) f at))
          ∙ ap (λ xs. rows ++ rows_of xs (drop (length rows) fates)) (sym next)
          ∙ s.are;
    }

pub at_end : (items left : List Item) (fates : List Fate) (rows : List Row) → left ≡ [] → SoFar items left fates rows → rows ≡ rows_of items fates
at_end items left fates rows none s =
    sym (append-nil rows) ∙ ap (λ xs. rows ++ rows_of xs (drop (length rows) fates)) (sym none) ∙ s.are
