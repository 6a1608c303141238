-- The walk's definition, one step at a time.
use Rattle.tree_walk.proofs.Prelude.{◌≡◌, ℕ, ◌+◌, ◌-◌, ◌<◌, ◌≤◌, true, false, List, [], ◌∷◌, map, length, ap, ◌∙◌, arith, zero, suc, cond, AllByRecursion}
use Rattle.tree_walk.proofs.Prelude.{flat_map, get, joined, Files, IsTree, names_in, is_dir, children_are_names, all_weaker, Answer, told, stat_failed}
use Rattle.tree_walk.proofs.Prelude.{list_failed, Answers, entry_of, children_of, walk_down}
use Rattle.tree_walk.specs.Walk.{walk}
use Rattle.tree_walk.proofs.Lined.{AreChildren}
use Rattle.tree_walk.proofs.Lists.{flat_same, both}
use Rattle.tree_walk.proofs.Names.{are_children, short_children}

-- a property of the paths that the walk goes on with, where the children of a directory and no paths at all have it
pub of_children : (P : List (List ℕ) → Type 0) (files : Files) (answer : Answer) (p : List ℕ) → P [] → P (map (joined p) (names_in files p)) →
    P (children_of answer files p)
of_children P files stat_failed p none some = none
of_children P files list_failed p none some = none
of_children P files (told u) p none some = elim (is_dir (get files p)) as (λ b. P (cond b (map (joined p) (names_in files p)) [])) [
  | true ↦ some
  | false ↦ none
]

pub children_are : (files : Files) (answer : Answer) (p : List ℕ) → IsTree files → AreChildren p (children_of answer files p)
children_are files answer p t =
    of_children (AreChildren p) files answer p (record { longer = tt; after = tt; lined = tt; before = λ q e. tt })
    (are_children p (names_in files p) (children_are_names files p t))

pub children_short : (files : Files) (answer : Answer) (p : List ℕ) → IsTree files → AllByRecursion (λ c. length c ≤ 4095) (children_of answer files p)
children_short files answer p t =
    of_children (AllByRecursion (λ c. length c ≤ 4095)) files answer p tt (short_children p (names_in files p) (children_are_names files p t))

-- longer than its parent, and short enough
abbrev Below : List ℕ → List ℕ → Type 0
Below p c = (length p < length c) × (length c ≤ 4095)

below_children : (files : Files) (answer : Answer) (p : List ℕ) → IsTree files → AllByRecursion (Below p) (children_of answer files p)
below_children files answer p t =
    both (λ c. length p < length c) (λ c. length c ≤ 4095) (children_of answer files p) (children_are files answer p t).longer (children_short files answer p t)

-- enough levels are enough
stable : (files : Files) (a : Answers) → IsTree files → (m n : ℕ) (p : List ℕ) → length p ≤ 4095 → 4096 ≤ m + length p → 4096 ≤ n + length p →
    walk_down m files a p ≡ walk_down n files a p
stable files a t zero n p s l r = absurd (omega arith)
stable files a t (suc m) zero p s l r = absurd (omega arith)
stable files a t (suc m) (suc n) p s l r =
    ap (λ rest. entry_of (a p) (get files p) p ∷ rest)
    (flat_same (walk_down m files a) (walk_down n files a) (children_of (a p) files p)
    (all_weaker (Below p) (λ c. walk_down m files a c ≡ walk_down n files a c)
    (λ c h. stable files a t m n c h.1 (omega (arith, h.0)) (omega (arith, h.0)))
    (children_of (a p) files p) (below_children files (a p) p t)))

-- the walk of a path is its entry, and then the walk of each child
pub walk_is : (files : Files) (a : Answers) (p : List ℕ) → IsTree files → length p ≤ 4095 →
    walk files a p ≡ entry_of (a p) (get files p) p ∷ flat_map (walk files a) (children_of (a p) files p)
unfolding walk
walk_is files a p t s =
    let levels : 4096 - length p ≡ suc (4095 - length p) = omega arith in
    ap (λ n. walk_down n files a p) levels
    ∙ ap (λ rest. entry_of (a p) (get files p) p ∷ rest)
    (flat_same (walk_down (4095 - length p) files a) (λ c. walk_down (4096 - length c) files a c) (children_of (a p) files p)
    (all_weaker (Below p) (λ c. walk_down (4095 - length p) files a c ≡ walk_down (4096 - length c) files a c)
    (λ c h. stable files a t (4095 - length p) (4096 - length c) c h.1 (omega (arith, h.0)) (omega (arith, h.0)))
    (children_of (a p) files p) (below_children files (a p) p t)))
