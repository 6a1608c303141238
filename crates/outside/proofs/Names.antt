-- The names of the children of a directory are names, and ascend in byte order.
use Rattle.outside.proofs.Prelude.{◌≡◌, ℕ, ◌≤◌, Bool, true, false, cond, ◌&&◌, ◌||◌, List, [], ◌∷◌, ◌++◌, map, length, Option, Some, None, refl, ap, ◌∙◌, sym}
use Rattle.outside.proofs.Prelude.{subst, arith, false≢true, or_parts, IsTrue, T, is_none, is_some, list_any, AllByRecursion, filter_map, cons_option, Contains}
use Rattle.outside.proofs.Prelude.{nat_cmp, ordering_then, is_lt, eq_by_cmp_equiv, first_so, slice_cmp, bytes_decides, Ordering, Less, Equal, Greater, get}
use Rattle.outside.proofs.Prelude.{keys, entries, entries_sorted, contains_key-keys, is_sorted, below_all, All-from_recursion, recursion_from_All}
use Rattle.outside.proofs.Prelude.{All-contains_itself, list_any-from_Contains, nat_tests, PathError, path_cmp, byte_rank, front, path_cmp_total, name_behind}
use Rattle.outside.proofs.Prelude.{short, front-joined, behind, is_slash, refusal, is_name, joined, parent_of, Files, Node, is_dir, is_root, name_below}
use Rattle.outside.proofs.Prelude.{AreNames, ChildrenAreNames}
use Rattle.std.specs.List.Sorted.{IsStrictlySortedBy}
use Rattle.outside.specs.Tree.{IsTree}
use Rattle.outside.proofs.Children.{child_is, one_name_parts}

-- each path of a tree is one

none_is : (o : Option PathError) → is_none o ≡ true → o ≡ None
none_is None e = refl
none_is (Some x) e = cc

-- a path that has a node is one
pub placed_path : (files : Files) (q : List ℕ) → IsTree files → is_none (get files q) ≡ false → refusal q ≡ None
unfolding IsTree
placed_path files q t some =
    elim (is_root q) as (λ b. is_root q ≡ b
    → cond b (is_dir (get files q)) (is_none (get files q) || (is_none (refusal q) && is_dir (get files (parent_of q)))) ≡ true
    → refusal q ≡ None) [
      | true ↦ λ e h. ap refusal ((bytes_decides q (47 ∷ [])).0 e)
      | false ↦ λ e h. none_is (refusal q)
          (first_so (is_none (refusal q)) _ (ap (λ b. b || (is_none (refusal q) && is_dir (get files (parent_of q)))) (sym some) ∙ h))
    ] refl (t q)

not_none : (o : Option Node) → is_some o ≡ true → is_none o ≡ false
not_none None e = absurd (false≢true e)
not_none (Some x) e = refl

pub all_weaker : {X : Type 0} (P Q : X → Type 0) → ((x : X) → P x → Q x) → (xs : List X) → AllByRecursion P xs → AllByRecursion Q xs
all_weaker P Q t [] h = h
all_weaker P Q t (x ∷ xs) h = (t x h.0, all_weaker P Q t xs h.1)

abbrev pub AllPaths : List (List ℕ) → Type 0
AllPaths qs = AllByRecursion (λ q. refusal q ≡ None) qs

pub all_paths : (files : Files) → IsTree files → AllPaths (keys files)
all_paths files t =
    all_weaker (Contains (keys files)) (λ q. refusal q ≡ None)
    (λ q c. placed_path files q t
    (not_none (get files q) (contains_key-keys files q ∙ list_any-from_Contains (eq_by_cmp_equiv path_cmp_total) q (keys files) c)))
    (keys files) (recursion_from_All (Contains (keys files)) (keys files) (All-contains_itself (keys files)))

-- the paths of a tree ascend

both_so : (a b : Bool) → T (a && b) → T a × T b
both_so true b h = (tt, h)
both_so false b h = absurd h

less_so : (o : Ordering) → T (is_lt o) → o ≡ Less
less_so Less h = refl
less_so Equal h = absurd h
less_so Greater h = absurd h

below_ascend : (x : List ℕ) (es : List (List ℕ × Node)) → T (below_all path_cmp x es) → AllByRecursion (λ y. path_cmp x y ≡ Less) (map (λ e. e.0) es)
below_ascend x [] h = tt
below_ascend x (e ∷ es) h = let b = both_so (is_lt (path_cmp x e.0)) (below_all path_cmp x es) h in (less_so (path_cmp x e.0) b.0, below_ascend x es b.1)

sorted_ascend : (es : List (List ℕ × Node)) → T (is_sorted path_cmp es) → IsStrictlySortedBy path_cmp (map (λ e. e.0) es)
unfolding IsStrictlySortedBy
sorted_ascend [] h = tt
sorted_ascend (e ∷ es) h = let b = both_so (below_all path_cmp e.0 es) (is_sorted path_cmp es) h in (below_ascend e.0 es b.0, sorted_ascend es b.1)

pub keys_ascend : (files : Files) → IsStrictlySortedBy path_cmp (keys files)
keys_ascend files = sorted_ascend (entries files) (entries_sorted files)

-- the names of the children among some paths
abbrev pub names_among : List ℕ → List (List ℕ) → List (List ℕ)
names_among p qs = filter_map (name_below p) qs

abbrev IsFine : List ℕ → List ℕ → Type 0
IsFine p m = (is_name m ≡ true) × (length (joined p m) ≤ 4095)

fine_names : (p : List ℕ) (qs : List (List ℕ)) → AllPaths qs → AllByRecursion (IsFine p) (names_among p qs)
fine_names p [] v = tt
fine_names p (q ∷ qs) v =
    elim (name_below p q) as (λ o. name_below p q ≡ o → AllByRecursion (IsFine p) (cons_option o (names_among p qs))) [
      | None ↦ λ is. fine_names p qs v.1
      | Some m ↦ λ is.
          let c = child_is p q m is in let o = one_name_parts m c.1 in (
            (
              name_behind p m (ap refusal (sym c.0) ∙ v.0) o.0 o.1,
              subst (λ x. length x ≤ 4095) (c.0 ∙ front-joined p m) (short q v.0),
            ),
            fine_names p qs v.1,
          )
    ] refl

-- behind the same front path order is the order of the names

one_byte : (a b : ℕ) (r s : Ordering) → is_slash a ≡ false → is_slash b ≡ false
    → ordering_then (nat_cmp (byte_rank a) (byte_rank b)) r ≡ Less → (r ≡ Less → s ≡ Less) → ordering_then (nat_cmp a b) s ≡ Less
one_byte a b r s p q e h = grind (arith, nat_tests)

by_bytes : (m n : List ℕ) → list_any is_slash m ≡ false → list_any is_slash n ≡ false → path_cmp m n ≡ Less → slice_cmp nat_cmp m n ≡ Less
by_bytes [] [] s t e = e
by_bytes [] (b ∷ n) s t e = refl
by_bytes (a ∷ m) [] s t e = e
by_bytes (a ∷ m) (b ∷ n) s t e =
    let l = or_parts (is_slash a) (list_any is_slash m) s in let r = or_parts (is_slash b) (list_any is_slash n) t in
    one_byte a b (path_cmp m n) (slice_cmp nat_cmp m n) l.0 r.0 e (by_bytes m n l.1 r.1)

later_names : (p m k : List ℕ) (qs : List (List ℕ)) → k ≡ front p ++ m → list_any is_slash m ≡ false
    → AllByRecursion (λ y. path_cmp k y ≡ Less) qs → AllByRecursion (λ n. slice_cmp nat_cmp m n ≡ Less) (names_among p qs)
later_names p m k [] e s a = tt
later_names p m k (x ∷ qs) e s a =
    elim (name_below p x) as (λ o. name_below p x ≡ o → AllByRecursion (λ n. slice_cmp nat_cmp m n ≡ Less) (cons_option o (names_among p qs))) [
      | None ↦ λ is. later_names p m k qs e s a.1
      | Some n ↦ λ is.
          let c = child_is p x n is in let o = one_name_parts n c.1 in
          (by_bytes m n s o.1 (sym (behind (front p) m n) ∙ sym (λ i. path_cmp (e i) (c.0 i)) ∙ a.0), later_names p m k qs e s a.1)
    ] refl

names_ascend : (p : List ℕ) (qs : List (List ℕ)) → IsStrictlySortedBy path_cmp qs → IsStrictlySortedBy (slice_cmp nat_cmp) (names_among p qs)
unfolding IsStrictlySortedBy
names_ascend p [] s = tt
names_ascend p (q ∷ qs) s =
    let rest = names_ascend p qs s.1 in
    elim (name_below p q) as (λ o. name_below p q ≡ o → IsStrictlySortedBy (slice_cmp nat_cmp) (cons_option o (names_among p qs))) [
      | None ↦ λ is. rest
      | Some m ↦ λ is.
          let c = child_is p q m is in let o = one_name_parts m c.1 in
          (later_names p m q qs c.0 o.1 s.0, rest)
    ] refl

-- among paths in path order
pub are_names : (p : List ℕ) (qs : List (List ℕ)) → AllPaths qs → IsStrictlySortedBy path_cmp qs → AreNames p (names_among p qs)
are_names p qs v s = record {
  valid = All-from_recursion (λ m. IsTrue (is_name m)) (names_among p qs)
      (all_weaker (IsFine p) (λ m. IsTrue (is_name m)) (λ m h. h.0) (names_among p qs) (fine_names p qs v));
  short = All-from_recursion (λ m. length (joined p m) ≤ 4095) (names_among p qs)
      (all_weaker (IsFine p) (λ m. length (joined p m) ≤ 4095) (λ m h. h.1) (names_among p qs) (fine_names p qs v));
  ascend = names_ascend p qs s;
}

pub children_are_names : ChildrenAreNames
children_are_names files path t = are_names path (keys files) (all_paths files t) (keys_ascend files)
