-- Paths of children, as they follow from the names in a directory.
use Rattle.tree_walk.proofs.Prelude.{◌≡◌, ℕ, ◌<◌, ◌≤◌, true, false, List, [], ◌∷◌, ◌++◌, length, map, ap, sym, subst, arith, cond, length-append, ◌==◌}
use Rattle.tree_walk.proofs.Prelude.{AllByRecursion, nat_cmp, slice_cmp, Less, recursion_from_All, All-from_recursion, path_cmp, front, joined, is_name}
use Rattle.tree_walk.proofs.Prelude.{precedes, front-joined, child_after, child_precedes, sibling_precedes, some_bytes, no_slash, AreNames, all_weaker}
use Rattle.std.specs.Bool.{IsTrue}
use Rattle.std.specs.List.Sorted.{IsStrictlySortedBy}
use Rattle.tree_walk.proofs.Lined.{Lined, AreChildren}
use Rattle.tree_walk.proofs.Lists.{all_map}

longer : (p name : List ℕ) → 0 < length name → length p < length (joined p name)
longer p name h = omega (arith, sym (ap length (front-joined p name)), length-append (front p) name, front_long)
  where
    front_long : length p ≤ length (front p)
    front_long = elim (length p == 1) as (λ b. length p ≤ length (cond b p (p ++ 47 ∷ []))) [
      | true ↦ omega arith
      | false ↦ omega (arith, length-append p (47 ∷ []))
    ]

abbrev Name : List ℕ → Type 0
Name name = IsTrue (is_name name)

pub lined_names : (path : List ℕ) (names : List (List ℕ)) → AllByRecursion Name names → IsStrictlySortedBy (slice_cmp nat_cmp) names →
    Lined (map (joined path) names)
unfolding IsStrictlySortedBy
lined_names path [] h s = tt
lined_names path (m ∷ names) h s = (
  all_map (λ y. precedes (joined path m) y ≡ true) (joined path) names (siblings names h.1 s.0),
  lined_names path names h.1 s.1,
)
  where
    siblings : (names : List (List ℕ)) → AllByRecursion Name names → AllByRecursion (λ n. slice_cmp nat_cmp m n ≡ Less) names →
        AllByRecursion (λ n. precedes (joined path m) (joined path n) ≡ true) names
    siblings [] g l = tt
    siblings (n ∷ names) g l = (sibling_precedes path m n (some_bytes m h.0) (no_slash m h.0) (no_slash n g.0) l.0, siblings names g.1 l.1)

pub are_children : (path : List ℕ) (names : List (List ℕ)) → AreNames path names → AreChildren path (map (joined path) names)
are_children path names are =
    let valid = recursion_from_All Name names are.valid in
    let each = λ (P : List ℕ → Type 0) (of : (n : List ℕ) → Name n → P (joined path n)).
    all_map P (joined path) names (all_weaker Name (λ n. P (joined path n)) of names valid) in
    record {
      longer = each (λ c. length path < length c) (λ n h. longer path n (some_bytes n h));
      after = each (λ c. path_cmp path c ≡ Less) (λ n h. child_after path n (some_bytes n h));
      lined = lined_names path names valid are.ascend;
      before = λ q e. each (λ c. precedes c q ≡ true) (λ n h. child_precedes path n q (some_bytes n h) e);
    }

pub short_children : (path : List ℕ) (names : List (List ℕ)) → AreNames path names → AllByRecursion (λ c. length c ≤ 4095) (map (joined path) names)
short_children path names are = all_map (λ c. length c ≤ 4095) (joined path) names (recursion_from_All (λ n. length (joined path n) ≤ 4095) names are.short)

pub no_names : (path : List ℕ) (names : List (List ℕ)) → names ≡ [] → AreNames path names
unfolding IsStrictlySortedBy
no_names path names e =
    subst (AreNames path) (sym e)
    (record { valid = All-from_recursion Name [] tt; short = All-from_recursion (λ n. length (joined path n) ≤ 4095) [] tt; ascend = tt })
