-- The walk of a made-up tree, in which nothing fails: no child is too far down, and it is no longer than the nodes and `/`.
use Rattle.list_report.proofs.Prelude.{◌≡◌, ℕ, ◌-◌, ◌≤◌, zero, suc, true, false, ◌||◌, cond, List, [], ◌∷◌, length, Option, Some, None, refl, ap, ◌∙◌, sym}
use Rattle.list_report.proofs.Prelude.{subst, arith, All, is_some, IsSome, AllByRecursion, Contains, flat_map, list_any, count_by, lookup, eq_by_cmp}
use Rattle.list_report.proofs.Prelude.{eq_by_cmp_equiv, bytes_decides, get, len, len-entries, entries, contains_key-keys, false≢true, common_steps, length-map}
use Rattle.list_report.proofs.Prelude.{All-from_recursion, recursion_from_All, sum_by-cons, IsDistinct-from_sorted, is_some-lookup, length-le_from_keys}
use Rattle.list_report.proofs.Prelude.{path_cmp, refusal, path_cmp_total, path_cmp_ties, Files, Node, far_at, IsTree, Entry, bit, walk_down, all_told, told}
use Rattle.list_report.proofs.Prelude.{entry_of, children_of, paths_of, WalkAscends, WalkFindsAll, is_in, is_in_some, IsRoots, test_files, FirstNodeIsThere}
use Rattle.list_report.proofs.Prelude.{TestFilesAreTree, NoChildIsFar, NodesAreCounted, MadeWalkIsFine, made_root, all_join}
use Rattle.std.specs.List.Sorted.{IsStrictlySortedBy}
use Rattle.entry_pages.specs.declared.entries.Mark.TheVariants as mark
use Rattle.tree_walk.specs.Walk.{walk}

-- what holds of the entry of each path holds of a walk

all_flat : {X Y : Type 0} (P : Y → Type 0) (f : X → List Y) → ((x : X) → AllByRecursion P (f x)) → (xs : List X) → AllByRecursion P (flat_map f xs)
all_flat P f h [] = tt
all_flat P f h (x ∷ xs) = all_join P (f x) (flat_map f xs) (h x) (all_flat P f h xs)

all_down : (P : Entry → Type 0) (files : Files) → ((path : List ℕ) → P (entry_of (told 0) (get files path) path)) → (levels : ℕ) (path : List ℕ) →
    AllByRecursion P (walk_down levels files all_told path)
all_down P files h zero path = tt
all_down P files h (suc levels) path = (h path, all_flat P (walk_down levels files all_told) (all_down P files h levels) (children_of (told 0) files path))

all_walked : (P : Entry → Type 0) (files : Files) → ((path : List ℕ) → P (entry_of (told 0) (get files path) path)) → (path : List ℕ) →
    AllByRecursion P (walk files all_told path)
unfolding walk
all_walked P files h path = all_down P files h (4096 - length path) path

-- none is far

entry_near : (o : Option Node) (path : List ℕ) → far_at o ≡ 0 → (entry_of (told 0) o path).far ≡ 0
entry_near None path h = refl
entry_near (Some node) path h = h

-- its paths are among those of the tree: a path that is fine is there
abbrev IsThere : Files → Entry → Type 0
IsThere files e = e.mark ≡ mark.Fine → is_some (get files e.path) ≡ true

entry_there : (files : Files) (o : Option Node) (path : List ℕ) → o ≡ get files path → IsThere files (entry_of (told 0) o path)
entry_there files None path e = λ fine. cc
entry_there files (Some node) path e = λ fine. ap is_some (sym e)

here : (files : Files) (q : List ℕ) (es : List Entry) → AllByRecursion (IsThere files) es → AllByRecursion (λ e. (e.mark ≡ mark.Fine) × (e.unnamed ≡ 0)) es →
    list_any (eq_by_cmp path_cmp q) (paths_of es) ≡ true → is_some (get files q) ≡ true
here files q [] h g any = absurd (false≢true any)
here files q (e ∷ es) h g any =
    elim (eq_by_cmp path_cmp q e.path) as
    (λ b. eq_by_cmp path_cmp q e.path ≡ b → (b || list_any (eq_by_cmp path_cmp q) (paths_of es)) ≡ true → is_some (get files q) ≡ true) [
      | true ↦ λ tied any. ap (λ p. is_some (get files p)) ((bytes_decides q e.path).0 (path_cmp_ties q e.path ∙ tied)) ∙ h.0 g.0.0
      | false ↦ λ tied any. here files q es h.1 g.1 any
    ] refl any

found : (files : Files) (q : List ℕ) → is_some (get files q) ≡ true → IsSome (lookup (eq_by_cmp path_cmp q) (entries files))
found files q h =
    is_found (lookup (eq_by_cmp path_cmp q) (entries files)) (is_some-lookup (eq_by_cmp path_cmp q) (entries files) ∙ sym (contains_key-keys files q) ∙ h)
  where
    is_found : (o : Option Node) → is_some o ≡ true → IsSome o
    is_found None e = absurd (false≢true e)
    is_found (Some node) e = refl

-- so it is no longer than the tree has paths
is_short : WalkAscends → WalkFindsAll → (files : Files) (root : List ℕ) → IsTree files → refusal root ≡ None → is_some (get files root) ≡ true →
    length (walk files all_told root) ≤ len files
is_short ascends finds files root tree valid there =
    let list = walk files all_told root in
    let fine = recursion_from_All (λ e. (e.mark ≡ mark.Fine) × (e.unnamed ≡ 0)) list (finds files root tree valid there) in
    let are = all_walked (IsThere files) files (λ path. entry_there files (get files path) path refl) root in
    let few = length-le_from_keys (eq_by_cmp_equiv path_cmp_total) (paths_of list) (entries files)
    (IsDistinct-from_sorted path_cmp (paths_of list) (ascends files all_told root tree valid)) (λ q any. found files q (here files q list are fine any)) in
    omega (arith, few, length-map list (λ (e : Entry). e.path), len-entries files)

-- ---- one root

one_apart : (x root : List ℕ) → count_by (is_in x) (root ∷ []) ≤ 1
one_apart x root = let parts = sum_by-cons (λ r. cond (is_in x r) 1 0) root [] in omega (arith, parts, bit (is_in x root))

is_its_root : IsRoots (made_root ∷ []) (made_root ∷ [])
unfolding IsStrictlySortedBy
is_its_root = record {
  among = All-from_recursion (Contains (made_root ∷ [])) (made_root ∷ []) ((0, omega arith, refl), tt);
  ascend = (tt, tt);
  apart = λ x. one_apart x made_root;
  cover = All-from_recursion (λ path. is_in_some (made_root ∷ []) path ≡ true) (made_root ∷ []) (refl, tt);
}

one_walk : (files : Files) (root : List ℕ) → flat_map (walk files all_told) (root ∷ []) ≡ walk files all_told root
one_walk files root = grind (arith, common_steps)

pub fine : WalkAscends → WalkFindsAll → FirstNodeIsThere → TestFilesAreTree → NoChildIsFar → NodesAreCounted → MadeWalkIsFine
fine ascends finds first trees near counted n l h =
    let files = test_files n in
    let there : is_some (get files made_root) ≡ true = subst (λ p. is_some (get files p) ≡ true) first.path (first.there n l h) in
    let near_all = all_walked (λ e. e.far ≡ 0) files (λ path. entry_near (get files path) path (near n l h path)) made_root in
    let entries_near = All-from_recursion (λ e. e.far ≡ 0) (walk files all_told made_root) near_all in
    let short = is_short ascends finds files made_root (trees n l h) refl there in
    record {
      roots = made_root ∷ [];
      are = is_its_root;
      there = All-from_recursion (λ root. is_some (get files root) ≡ true) (made_root ∷ []) (there, tt);
      near = subst (λ es. All (λ e. e.far ≡ 0) es) (sym (one_walk files made_root)) entries_near;
      few = omega (arith, ap length (one_walk files made_root), short, counted n l h, h);
    }
