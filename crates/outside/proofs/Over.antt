-- In a tree all that a path is under is a directory.
use Rattle.outside.proofs.Prelude.{◌≡◌, ℕ, zero, suc, ◌≤◌, true, false, ◌||◌, List, [], ◌∷◌, length, None, refl, sym, subst, arith, nat_eq, get, pointwise}
use Rattle.outside.proofs.Prelude.{bytes_decides, is_under, refusal, parent_of, Files, IsTree, is_dir, is_root, parent_moves_too, parent_under, under_longer}
use Rattle.outside.proofs.Prelude.{under_no_root}
use Rattle.std.proofs.Common.{is_some}
use Rattle.outside.proofs.Leased.{at_tree, dir_is_there}

root_fine : (r : List ℕ) → is_root r ≡ true → refusal r ≡ None
root_fine r e = subst (λ x. refusal x ≡ None) (sym ((bytes_decides r (47 ∷ [])).0 e)) refl

-- a path in a tree is one, as is its parent
pub valid_there : (files : Files) → IsTree files → (r : List ℕ) → is_some (get files r) ≡ true → refusal r ≡ None
valid_there files tree r there = elim (is_root r) as (λ b. is_root r ≡ b → refusal r ≡ None) [
  | true ↦ λ is. root_fine r is
  | false ↦ λ off. (at_tree files tree r).fine off there
] refl

over : (n : ℕ) (files : Files) → IsTree files → (q p : List ℕ) → length q ≤ n → refusal p ≡ None → is_under q p ≡ true
    → is_some (get files q) ≡ true → is_dir (get files p) ≡ true
over zero files tree q p l fp u there = absurd (let m = under_longer q p u in omega (arith, l, m))
over (suc n) files tree q p l fp u there =
    let off = under_no_root q p u in
    let fine = (at_tree files tree q).fine off there in
    let dir = (at_tree files tree q).in_dir off there in
    let some = dir_is_there (get files (parent_of q)) dir in
    let on = parent_moves_too.within q p fine fp u in
    elim (pointwise nat_eq (parent_of q) p) as
    (λ b. pointwise nat_eq (parent_of q) p ≡ b → (b || is_under (parent_of q) p) ≡ true → is_dir (get files p) ≡ true) [
      | true ↦ λ is _. subst (λ x. is_dir (get files x) ≡ true) ((bytes_decides (parent_of q) p).0 is) dir
      | false ↦ λ _ v. over n files tree (parent_of q) p (let m = under_longer q (parent_of q) (parent_under q fine off) in omega (arith, m, l)) fp v some
    ] refl on

pub under_dirs : (files : Files) → IsTree files → (q p : List ℕ) → refusal p ≡ None → is_under q p ≡ true → is_some (get files q) ≡ true
    → is_dir (get files p) ≡ true
under_dirs files tree q p = over (length q) files tree q p (omega arith)
