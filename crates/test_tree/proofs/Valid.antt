-- The path of a node is a path.
use Rattle.test_tree.proofs.Prelude.{◌≡◌, ℕ, ◌/◌, ◌<◌, ◌≤◌, zero, suc, List, [], ◌∷◌, length, None, refl, ap, ◌∙◌, arith, IsTrue, refusal, is_name, joined}
use Rattle.test_tree.proofs.Prelude.{name_alone, refusal_joined, name_of, path_of}
use Rattle.test_tree.proofs.Numbered.{name_fine}
use Rattle.test_tree.proofs.Placed.{path_of-zero, path_of-suc, path_fits}

-- a path and a name make a path, if it is not too long
child_valid : (p n : List ℕ) → refusal p ≡ None → IsTrue (is_name n) → length (joined p n) ≤ 4095 → refusal (joined p n) ≡ None
child_valid p n h g l = refusal_joined p n h (name_alone n g) l

valid : (levels k : ℕ) → k < levels → k < 1000000 → refusal (path_of k) ≡ None
valid zero k h l = absurd (omega arith)
valid (suc levels) zero h l = ap refusal path_of-zero
    ∙ child_valid (47 ∷ []) (name_of 0) refl (name_fine 0 (omega arith)) (omega (arith, ap length path_of-zero, path_fits 0 l))
valid (suc levels) (suc k) h l =
    ap refusal (path_of-suc k)
    ∙ child_valid (path_of (k / 8)) (name_of (suc k)) (valid levels (k / 8) (omega arith) (omega arith)) (name_fine (suc k) (omega arith))
    (omega (arith, ap length (path_of-suc k), path_fits (suc k) l))

pub path_valid : (k : ℕ) → k < 1000000 → refusal (path_of k) ≡ None
path_valid k h = valid (suc k) k (omega arith) h
