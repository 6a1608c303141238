-- Each entry of a walk is one of its roots, or the walk went on with it from its parent, which was listed.
use Rattle.tree_walk.proofs.Prelude.{◌≡◌, ◌⊎◌, inl, inr, ⊎_elim, ℕ, ◌-◌, ◌<◌, ◌≤◌, true, false, List, [], ◌∷◌, map, length, Option, Some, None, refl, ap, ◌∙◌}
use Rattle.tree_walk.proofs.Prelude.{sym, subst, cond, is_some, IsTrue, AllByRecursion, flat_map, count_by, get, false≢true, recursion_from_All}
use Rattle.tree_walk.proofs.Prelude.{All-from_recursion, All-contains, is_name, joined, refusal, parent_of, front, cut, parent_joined, front-joined, some_bytes}
use Rattle.tree_walk.proofs.Prelude.{no_slash, Files, Node, Body, dir, file, link, other, IsTree, is_dir, is_dir_body, is_root, names_in, placed_path}
use Rattle.tree_walk.proofs.Prelude.{children_are_names, all_weaker, Entry, is_of, told, stat_failed, list_failed, Answers, entry_of, entry_of_node}
use Rattle.tree_walk.proofs.Prelude.{children_of, is_in, IsTold, ParentsAreListed, dir_is_there}
use Rattle.outside.specs.declared.trees.Kind.TheVariants as kind
use Rattle.entry_pages.specs.declared.entries.Mark.TheVariants as mark
use Rattle.tree_walk.specs.Walk.{walk}
use Rattle.tree_walk.proofs.Nodes.{not_none}
use Rattle.tree_walk.proofs.Lists.{all_flat, all_map}
use Rattle.tree_walk.proofs.Covers.{child_covers, child_not_above}
use Rattle.tree_walk.proofs.Recursive.{of_children}
use Rattle.tree_walk.proofs.Lawful.{walk_entries}
use Rattle.tree_walk.proofs.Inside.{begins-itself, is_in_is, in_itself, in_trans}
use Rattle.tree_walk.proofs.Standing.{In, Above, only, of_all, each_in}
use Rattle.tree_walk.proofs.Told.{entries_are_told}

-- ---- nodes of a tree

path_of_node : (files : Files) (path : List ℕ) → IsTree files → is_some (get files path) ≡ true → refusal path ≡ None
path_of_node files path t some = placed_path files path t (not_none (get files path) some)

-- ---- what a walk goes on with

-- the walk went on with the path from its parent, which was listed
record IsChild (files : Files) (a : Answers) (path : List ℕ) : Type 0 where
  unnamed : ℕ
  answer : a (parent_of path) ≡ told unnamed
  dir : is_dir (get files (parent_of path)) ≡ true

children_of_listed : (files : Files) (a : Answers) (p : List ℕ) (u : ℕ) → IsTree files → a p ≡ told u → is_dir (get files p) ≡ true →
    (names : List (List ℕ)) → AllByRecursion (λ n. IsTrue (is_name n)) names → AllByRecursion (IsChild files a) (map (joined p) names)
children_of_listed files a p u t e d [] v = tt
children_of_listed files a p u t e d (n ∷ names) v =
    let same = parent_joined p n (path_of_node files p t (dir_is_there (get files p) d)) (no_slash n v.0) in (
      record { unnamed = u; answer = ap a same ∙ e; dir = ap (λ q. is_dir (get files q)) same ∙ d },
      children_of_listed files a p u t e d names v.1,
    )

each_child : (files : Files) (a : Answers) (p : List ℕ) → IsTree files → AllByRecursion (IsChild files a) (children_of (a p) files p)
each_child files a p t =
    let names = names_in files p in
    let valid = recursion_from_All (λ n. IsTrue (is_name n)) names (children_are_names files p t).valid in
    elim (a p) as (λ x. a p ≡ x → AllByRecursion (IsChild files a) (children_of x files p)) [
      | stat_failed ↦ λ e. tt
      | list_failed ↦ λ e. tt
      | told u ↦ λ e. elim (is_dir (get files p)) as (λ b. is_dir (get files p) ≡ b → AllByRecursion (IsChild files a) (cond b (map (joined p) names) [])) [
        | true ↦ λ d. children_of_listed files a p u t e d names valid
        | false ↦ λ d. tt
      ] refl
    ] refl

child_in : (p n : List ℕ) → 0 < length n → is_in (joined p n) p ≡ true
child_in p n some = is_in_is (joined p n) p ∙ child_covers (joined p n) p n some (begins-itself (front (joined p n)))

children_in : (files : Files) (a : Answers) (root p : List ℕ) → IsTree files → is_in p root ≡ true →
    AllByRecursion (λ c. is_in c root ≡ true) (children_of (a p) files p)
children_in files a root p t h =
    let names = names_in files p in
    let valid = recursion_from_All (λ n. IsTrue (is_name n)) names (children_are_names files p t).valid in
    of_children (AllByRecursion (λ c. is_in c root ≡ true)) files (a p) p tt
    (all_map (λ c. is_in c root ≡ true) (joined p) names
    (all_weaker (λ n. IsTrue (is_name n)) (λ n. is_in (joined p n) root ≡ true)
    (λ n name. in_trans (joined p n) p root (child_in p n (some_bytes n name)) h) names valid))

-- ---- all walks together

-- the path is a root, or the walk went on with it
abbrev Comes : Files → Answers → List (List ℕ) → List ℕ → Type 0
Comes files a roots path = In path roots ⊎ IsChild files a path

come : (files : Files) (a : Answers) (roots : List (List ℕ)) → IsTree files → AllByRecursion (λ e. Comes files a roots e.path) (flat_map (walk files a) roots)
unfolding walk
come files a roots t =
    all_flat (λ e. Comes files a roots e.path) (walk files a) roots
    (all_weaker (λ r. In r roots) (λ r. AllByRecursion (λ e. Comes files a roots e.path) (walk files a r))
    (λ r i. walk_entries (Comes files a roots) files a
    (λ p h. all_weaker (IsChild files a) (Comes files a roots) (λ c k. inr k) (children_of (a p) files p) (each_child files a p t)) (4096 - length r) r (inl i))
    roots (each_in roots))

inside : (files : Files) (a : Answers) (roots : List (List ℕ)) → IsTree files → AllByRecursion (λ e. Above e.path roots) (flat_map (walk files a) roots)
unfolding walk
inside files a roots t =
    all_flat (λ e. Above e.path roots) (walk files a) roots
    (all_weaker (λ r. In r roots) (λ r. AllByRecursion (λ e. Above e.path roots) (walk files a r))
    (λ r i. all_weaker (λ e. is_in e.path r ≡ true) (λ e. Above e.path roots) (λ e h. record { path = r; stands = i; is = h }) (walk files a r)
    (walk_entries (λ p. is_in p r ≡ true) files a (λ p h. children_in files a r p t h) (4096 - length r) r (in_itself r)))
    roots (each_in roots))

-- ---- the parent of an entry

abbrev IsListed : Entry → Type 0
IsListed e = (is_of kind.Dir e.stat ≡ true) × (e.mark ≡ mark.Fine)

listed_dir : (body : Body) (mtime : Option ℕ) (u : ℕ) (p : List ℕ) → is_dir_body body ≡ true →
    IsListed (entry_of_node (told u) (record { body = body; mtime = mtime }) p)
listed_dir (dir far) mtime u p d = (refl, refl)
listed_dir _ mtime u p d = absurd (false≢true d)

listed : (found : Option Node) (u : ℕ) (p : List ℕ) → is_dir found ≡ true → IsListed (entry_of (told u) found p)
listed None u p d = absurd (false≢true d)
listed (Some node) u p d = listed_dir node.body node.mtime u p d

-- of roots that are apart none stands under another, so its parent is in no walk
no_parent : (roots : List (List ℕ)) (root : List ℕ) → refusal root ≡ None → is_root root ≡ false → In root roots → Above (parent_of root) roots →
    count_by (is_in root) roots ≤ 1 → ⊥
no_parent roots root v off i above one =
    let k = cut root v off in
    let p = parent_of root in
    let whole : joined p k.name ≡ root = sym (front-joined p k.name) ∙ sym k.whole in
    let under : is_in root p ≡ true =
    subst (λ q. is_in q p ≡ true) whole (child_in p k.name k.some) in
    let same : root ≡ above.path = only root root above.path roots one i above.stands (in_itself root) (in_trans root p above.path under above.is) in
    let back : is_in p root ≡ true = subst (λ q. is_in p q ≡ true) (sym same) above.is in
    false≢true (sym (is_in_is p (joined p k.name) ∙ child_not_above p k.name k.some) ∙ subst (λ q. is_in p q ≡ true) (sym whole) back)

pub parents_are_listed : ParentsAreListed
parents_are_listed files a roots t valid apart e parent stands over off is =
    let list = flat_map (walk files a) roots in
    let each = λ (P : Entry → Type 0) (h : AllByRecursion P list). All-from_recursion P list h in
    let comes = All-contains (λ (x : Entry). Comes files a roots x.path) list e (each (λ x. Comes files a roots x.path) (come files a roots t)) stands in
    let above = All-contains (λ (x : Entry). Above x.path roots) list parent (each (λ x. Above x.path roots) (inside files a roots t)) over in
    let own : IsTold files a parent = All-contains (IsTold files a) list parent (entries_are_told.of_all files a roots) over in
    ⊎_elim
    (λ i.
    let v = of_all (λ root. refusal root ≡ None) roots e.path (recursion_from_All (λ root. refusal root ≡ None) roots valid) i in
    absurd (no_parent roots e.path v off i (subst (λ q. Above q roots) is above) (apart e.path)))
    (λ c. subst IsListed (sym own.own)
    (subst (λ x. IsListed (entry_of x (get files parent.path) parent.path)) (sym (ap a is ∙ c.answer))
    (listed (get files parent.path) c.unnamed parent.path (ap (λ q. is_dir (get files q)) is ∙ c.dir))))
    comes
