-- The laws of the recursive walk.
use Rattle.tree_walk.proofs.Prelude.{◌≡◌, ℕ, ◌+◌, ◌-◌, ◌≤◌, true, false, cond, List, [], ◌∷◌, ◌++◌, map, length, Option, Some, None, refl, ap, ◌∙◌, sym, subst}
use Rattle.tree_walk.proofs.Prelude.{arith, zero, suc, eqb, is_some, AllByRecursion, flat_map, filter_map, cons_option, count_by, sum_by, Contains, get, keys}
use Rattle.tree_walk.proofs.Prelude.{contains_key-keys, eq_by_cmp_equiv, pointwise, bytes_decides, Less, false≢true, recursion_from_All, All-from_recursion}
use Rattle.tree_walk.proofs.Prelude.{All-contains_itself, sum_by-cons, list_any-from_Contains, joined, path_cmp, precedes, precedes-Less, front-joined}
use Rattle.tree_walk.proofs.Prelude.{path_cmp_total, Files, Node, IsTree, is_dir_body, name_below, names_in, placed_path, all_weaker, child_is, Entry, Answer}
use Rattle.tree_walk.proofs.Prelude.{told, stat_failed, list_failed, Answers, all_told, entry_of, children_of, walk_down, paths_of, weight, weight_of}
use Rattle.tree_walk.proofs.Prelude.{answer_in, answers_in, WalkIsRecursive, WalkAscends, WalkHasEachPathOnce, WalkFindsAll, WalkWithoutFaultsIsFine, all_join}
use Rattle.std.specs.List.Sorted.{IsStrictlySortedBy}
use Rattle.path_text.proofs.Parts as parts
use Rattle.entry_pages.specs.declared.entries.Mark.TheVariants as mark
use Rattle.tree_walk.proofs.Lined.{Lined}
use Rattle.tree_walk.specs.Walk.{walk}
use Rattle.tree_walk.proofs.Nodes.{not_none}
use Rattle.tree_walk.proofs.Lists.{all_map, all_flat, sorted_append, swapped}
use Rattle.tree_walk.proofs.Same.{unequal}
use Rattle.tree_walk.proofs.Recursive.{walk_is, children_are, of_children}

pub walk_is_recursive : WalkIsRecursive
walk_is_recursive files a path t v = walk_is files a path t (parts.short path v)

-- where P goes from a path to those that the walk goes on with, and makes Q of an entry, Q holds of all entries of a walk
walk_all : (P : List ℕ → Type 0) (Q : Entry → Type 0) (files : Files) (a : Answers) → ((p : List ℕ) → P p → Q (entry_of (a p) (get files p) p)) →
    ((p : List ℕ) → P p → AllByRecursion P (children_of (a p) files p)) →
    (levels : ℕ) (p : List ℕ) → P p → AllByRecursion Q (walk_down levels files a p)
walk_all P Q files a here down zero p h = tt
walk_all P Q files a here down (suc levels) p h = (
  here p h,
  all_flat Q (walk_down levels files a) (children_of (a p) files p)
      (all_weaker P (λ c. AllByRecursion Q (walk_down levels files a c)) (walk_all P Q files a here down levels) (children_of (a p) files p) (down p h)),
)

pub path_is : (answer : Answer) (found : Option Node) (p : List ℕ) → (entry_of answer found p).path ≡ p
path_is stat_failed found p = refl
path_is list_failed None p = refl
path_is list_failed (Some node) p = refl
path_is (told unnamed) None p = refl
path_is (told unnamed) (Some node) p = refl

-- where P goes from a path to those that the walk goes on with, it holds of the paths of all entries
pub walk_entries : (P : List ℕ → Type 0) (files : Files) (a : Answers) → ((p : List ℕ) → P p → AllByRecursion P (children_of (a p) files p)) →
    (levels : ℕ) (p : List ℕ) → P p → AllByRecursion (λ e. P e.path) (walk_down levels files a p)
walk_entries P files a down levels p h = walk_all P (λ e. P e.path) files a (λ q g. subst P (sym (path_is (a q) (get files q) q)) g) down levels p h

walk_paths : (P : List ℕ → Type 0) (files : Files) (a : Answers) → ((p : List ℕ) → P p → AllByRecursion P (children_of (a p) files p)) →
    (levels : ℕ) (p : List ℕ) → P p → AllByRecursion P (paths_of (walk_down levels files a p))
walk_paths P files a down levels p h = all_map P (λ (e : Entry). e.path) (walk_down levels files a p) (walk_entries P files a down levels p h)

-- ---- paths ascend

-- what a path precedes, its walk precedes
walk_before : (files : Files) (a : Answers) → IsTree files → (levels : ℕ) (p q : List ℕ) → precedes p q ≡ true →
    AllByRecursion (λ x. precedes x q ≡ true) (paths_of (walk_down levels files a p))
walk_before files a t levels p q h = walk_paths (λ x. precedes x q ≡ true) files a (λ x g. (children_are files (a x) x t).before q g) levels p h

-- what comes before a path comes before its walk
walk_after : (files : Files) (a : Answers) → IsTree files → (levels : ℕ) (x p : List ℕ) → path_cmp x p ≡ Less →
    AllByRecursion (λ y. path_cmp x y ≡ Less) (paths_of (walk_down levels files a p))
walk_after files a t levels x p h =
    walk_paths (λ y. path_cmp x y ≡ Less) files a
    (λ y g. all_weaker (λ c. path_cmp y c ≡ Less) (λ c. path_cmp x c ≡ Less) (λ c e. path_cmp_total.trans x y c g e)
    (children_of (a y) files y) (children_are files (a y) y t).after)
    levels p h

paths_append : (xs ys : List Entry) → paths_of (xs ++ ys) ≡ paths_of xs ++ paths_of ys
paths_append [] ys = refl
paths_append (x ∷ xs) ys = ap (λ l. x.path ∷ l) (paths_append xs ys)

-- what comes before some paths comes before their walks, each with its own number of levels
flat_after : (files : Files) (a : Answers) → IsTree files → (n : List ℕ → ℕ) (x : List ℕ) (cs : List (List ℕ)) →
    AllByRecursion (λ c. path_cmp x c ≡ Less) cs → AllByRecursion (λ y. path_cmp x y ≡ Less) (paths_of (flat_map (λ c. walk_down (n c) files a c) cs))
flat_after files a t n x [] h = tt
flat_after files a t n x (c ∷ cs) h =
    let w = λ (c : List ℕ). walk_down (n c) files a c in
    subst (AllByRecursion (λ y. path_cmp x y ≡ Less)) (sym (paths_append (w c) (flat_map w cs)))
    (all_join (λ y. path_cmp x y ≡ Less) (paths_of (w c)) (paths_of (flat_map w cs)) (walk_after files a t (n c) x c h.0) (flat_after files a t n x cs h.1))

flat_ascend : (files : Files) (a : Answers) → IsTree files → (n : List ℕ → ℕ) →
    ((c : List ℕ) → IsStrictlySortedBy path_cmp (paths_of (walk_down (n c) files a c))) →
    (cs : List (List ℕ)) → Lined cs → IsStrictlySortedBy path_cmp (paths_of (flat_map (λ c. walk_down (n c) files a c) cs))
unfolding IsStrictlySortedBy
flat_ascend files a t n each [] l = tt
flat_ascend files a t n each (c ∷ cs) l =
    let w = λ (c : List ℕ). walk_down (n c) files a c in
    let below = all_weaker (λ q. precedes c q ≡ true) (λ q. AllByRecursion (λ x. precedes x q ≡ true) (paths_of (w c)))
    (walk_before files a t (n c) c) cs l.0 in
    let between = all_weaker (λ x. AllByRecursion (λ q. precedes x q ≡ true) cs) (λ x. AllByRecursion (λ y. path_cmp x y ≡ Less) (paths_of (flat_map w cs)))
    (λ x h. flat_after files a t n x cs (all_weaker (λ q. precedes x q ≡ true) (λ q. path_cmp x q ≡ Less) (precedes-Less x) cs h))
    (paths_of (w c)) (swapped (λ q x. precedes x q ≡ true) cs (paths_of (w c)) below) in
    subst (IsStrictlySortedBy path_cmp) (sym (paths_append (w c) (flat_map w cs)))
    (sorted_append path_cmp (paths_of (w c)) (paths_of (flat_map w cs)) (each c) (flat_ascend files a t n each cs l.1) between)

down_ascends : (files : Files) (a : Answers) → IsTree files → (levels : ℕ) (p : List ℕ) → IsStrictlySortedBy path_cmp (paths_of (walk_down levels files a p))
unfolding IsStrictlySortedBy
down_ascends files a t zero p = tt
down_ascends files a t (suc levels) p =
    let are = children_are files (a p) p t in
    let children = children_of (a p) files p in
    let rest = paths_of (flat_map (walk_down levels files a) children) in
    let after = flat_after files a t (λ c. levels) p children are.after in (
      subst (λ x. AllByRecursion (λ y. path_cmp x y ≡ Less) rest) (sym (path_is (a p) (get files p) p)) after,
      flat_ascend files a t (λ c. levels) (down_ascends files a t levels) children are.lined,
    )

pub walk_ascends : WalkAscends
unfolding walk
walk_ascends files a path t v = down_ascends files a t (4096 - length path) path

-- the walks of paths that stand in line ascend together
pub walks_ascend : (files : Files) (a : Answers) (starts : List (List ℕ)) → IsTree files → Lined starts →
    IsStrictlySortedBy path_cmp (paths_of (flat_map (walk files a) starts))
unfolding walk
walks_ascend files a starts t l = flat_ascend files a t (λ p. 4096 - length p) (λ p. down_ascends files a t (4096 - length p) p) starts l

-- each entry of a walk is that of its path
abbrev pub IsOwn : Files → Answers → Entry → Type 0
IsOwn files a e = e ≡ entry_of (a e.path) (get files e.path) e.path

own_here : (files : Files) (a : Answers) (p : List ℕ) → IsOwn files a (entry_of (a p) (get files p) p)
own_here files a p = let back = sym (path_is (a p) (get files p) p) in λ i. entry_of (a (back i)) (get files (back i)) (back i)

any_below : (cs : List (List ℕ)) → AllByRecursion (λ c. Unit {0}) cs
any_below [] = tt
any_below (c ∷ cs) = (tt, any_below cs)

pub walk_own : (files : Files) (a : Answers) (root : List ℕ) → AllByRecursion (IsOwn files a) (walk files a root)
unfolding walk
walk_own files a root =
    walk_all (λ p. Unit {0}) (IsOwn files a) files a (λ p h. own_here files a p) (λ p h. any_below (children_of (a p) files p)) (4096 - length root) root tt

each_walk : (P : Entry → Type 0) (w : List ℕ → List Entry) → ((p : List ℕ) → AllByRecursion P (w p)) → (starts : List (List ℕ)) →
    AllByRecursion (λ p. AllByRecursion P (w p)) starts
each_walk P w h [] = tt
each_walk P w h (p ∷ starts) = (h p, each_walk P w h starts)

pub walks_own : (files : Files) (a : Answers) (starts : List (List ℕ)) → AllByRecursion (IsOwn files a) (flat_map (walk files a) starts)
walks_own files a starts = all_flat (IsOwn files a) (walk files a) starts (each_walk (IsOwn files a) (walk files a) (walk_own files a) starts)

-- ---- each path once

one_more : (q x : List ℕ) (xs : List (List ℕ)) → count_by (pointwise eqb q) (x ∷ xs) ≡ cond {A = ℕ} (pointwise eqb q x) 1 0 + count_by (pointwise eqb q) xs
one_more q x xs = sum_by-cons (λ y. cond (pointwise eqb q y) 1 0) x xs

none_behind : (q : List ℕ) (xs : List (List ℕ)) → AllByRecursion (λ y. path_cmp q y ≡ Less) xs → count_by (pointwise eqb q) xs ≡ 0
none_behind q [] h = refl
none_behind q (x ∷ xs) h = omega (arith, one_more q x xs, ap (λ b. cond {A = ℕ} b 1 0) (unequal q x h.0), none_behind q xs h.1)

once : (q : List ℕ) (xs : List (List ℕ)) → IsStrictlySortedBy path_cmp xs → count_by (pointwise eqb q) xs ≤ 1
unfolding IsStrictlySortedBy
once q [] s = omega arith
once q (x ∷ xs) s =
    let counted : cond {A = ℕ} (pointwise eqb q x) 1 0 + count_by (pointwise eqb q) xs ≤ 1 =
    elim (pointwise eqb q x) as (λ b. pointwise eqb q x ≡ b → cond {A = ℕ} b 1 0 + count_by (pointwise eqb q) xs ≤ 1) [
      | true ↦ λ e. omega (arith, none_behind q xs (subst (λ z. AllByRecursion (λ y. path_cmp z y ≡ Less) xs) (sym ((bytes_decides q x).0 e)) s.0))
      | false ↦ λ e. omega (arith, once q xs s.1)
    ] refl in
    omega (arith, one_more q x xs, counted)

pub walk_has_each_path_once : WalkHasEachPathOnce
walk_has_each_path_once files a path q t v = once q (paths_of (walk files a path)) (walk_ascends files a path t v)

-- ---- all is found

abbrev pub IsFound : Files → List ℕ → Type 0
IsFound files p = is_some (get files p) ≡ true

found_below : (files : Files) (p : List ℕ) (qs : List (List ℕ)) → AllByRecursion (IsFound files) qs →
    AllByRecursion (IsFound files) (map (joined p) (filter_map (name_below p) qs))
found_below files p [] h = tt
found_below files p (q ∷ qs) h =
    elim (name_below p q) as (λ o. name_below p q ≡ o → AllByRecursion (IsFound files) (map (joined p) (cons_option o (filter_map (name_below p) qs)))) [
      | None ↦ λ e. found_below files p qs h.1
      | Some m ↦ λ e. (subst (IsFound files) ((child_is p q m e).0 ∙ front-joined p m) h.0, found_below files p qs h.1)
    ] refl

keys_found : (files : Files) → AllByRecursion (IsFound files) (keys files)
keys_found files =
    let found = λ (q : List ℕ) (c : Contains (keys files) q).
    contains_key-keys files q ∙ list_any-from_Contains (eq_by_cmp_equiv path_cmp_total) q (keys files) c in
    let each = recursion_from_All (Contains (keys files)) (keys files) (All-contains_itself (keys files)) in
    all_weaker (Contains (keys files)) (IsFound files) found (keys files) each

-- the children of a path stand in the tree
pub children_found : (files : Files) (p : List ℕ) → AllByRecursion (IsFound files) (map (joined p) (names_in files p))
children_found files p = found_below files p (keys files) (keys_found files)

abbrev IsFine : Entry → Type 0
IsFine e = (e.mark ≡ mark.Fine) × (e.unnamed ≡ 0)

found_fine : (found : Option Node) (p : List ℕ) → is_some found ≡ true → IsFine (entry_of (told 0) found p)
found_fine None p h = absurd (false≢true h)
found_fine (Some node) p h = (refl, elim (is_dir_body node.body) as (λ b. cond {A = ℕ} b 0 0 ≡ 0) [ true ↦ refl | false ↦ refl ])

pub walk_finds_all : WalkFindsAll
unfolding walk
walk_finds_all files root t v found =
    All-from_recursion IsFine (walk_down (4096 - length root) files all_told root)
    (walk_all (IsFound files) IsFine files all_told (λ p. found_fine (get files p) p)
    (λ p h. of_children (AllByRecursion (IsFound files)) files (told 0) p tt (children_found files p)) (4096 - length root) root found)

-- ---- several roots, and no failed answer

walks_find_all : (files : Files) (roots : List (List ℕ)) → IsTree files → AllByRecursion (IsFound files) roots →
    AllByRecursion IsFine (flat_map (walk files all_told) roots)
walks_find_all files [] t h = tt
walks_find_all files (root ∷ roots) t h =
    let v = placed_path files root t (not_none (get files root) h.0) in
    all_join IsFine (walk files all_told root) (flat_map (walk files all_told) roots)
    (recursion_from_All IsFine (walk files all_told root) (walk_finds_all files root t v h.0)) (walks_find_all files roots t h.1)

pub none_failed : (answer : Answer) → weight answer ≡ 0 → answer ≡ told 0
none_failed (told unnamed) h = ap told h
none_failed _ h = absurd (omega arith)

-- entries of weight 0 tell no failed answer
pub all_told_in : (entries : List Entry) (path : List ℕ) → sum_by weight_of entries ≡ 0 → answers_in entries path ≡ told 0
all_told_in [] path h = refl
all_told_in (e ∷ entries) path h =
    let parts = sum_by-cons weight_of e entries in
    elim (pointwise eqb e.path path) as (λ b. cond b (answer_in e) (answers_in entries path) ≡ told 0) [
      | true ↦ none_failed (answer_in e) (omega (arith, h, parts))
      | false ↦ all_told_in entries path (omega (arith, h, parts))
    ]

pub walk_without_faults_is_fine : WalkWithoutFaultsIsFine
walk_without_faults_is_fine files roots entries t found is weightless =
    let told = λ (path : List ℕ). all_told_in entries path weightless in
    let same : entries ≡ flat_map (walk files all_told) roots = is ∙ ap (λ a. flat_map (walk files a) roots) (λ i path. told path i) in
    let fine = walks_find_all files roots t (recursion_from_All (IsFound files) roots found) in
    (same, All-from_recursion IsFine entries (subst (AllByRecursion IsFine) (sym same) fine))
