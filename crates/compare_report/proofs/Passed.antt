-- A search through ascending paths.
use Rattle.compare_report.proofs.Prelude.{◌≡◌, ℕ, ◌+◌, ◌<◌, ◌≤◌, zero, suc, Bool, true, false, ◌||◌, List, [], ◌∷◌, length, take, drop, get_or, refl, ap, sym}
use Rattle.compare_report.proofs.Prelude.{◌∙◌, subst, arith, add-one, All, AllByRecursion, list_any, nat_eq, is_eq, ordering_reverse, pointwise, bytes_decides}
use Rattle.compare_report.proofs.Prelude.{Ordering, Less, Equal, Greater, drop-cons, take-suc, take-append-drop, drop_all, list_any-append, recursion_from_All}
use Rattle.compare_report.proofs.Prelude.{All-push, path_cmp, path_cmp_total, path_cmp_ties, path_cmp_same, IsPassed, higher}
use Rattle.std.specs.List.Sorted.{IsStrictlySortedBy}

abbrev same : List ℕ → List ℕ → Bool
same = pointwise nat_eq

-- paths that do not tie are not the same
other : (p q : List ℕ) (c : Ordering) → path_cmp q p ≡ c → is_eq c ≡ false → same q p ≡ false
other p q c e not_eq = path_cmp_ties q p ∙ ap is_eq e ∙ not_eq

reversed : (p q : List ℕ) → path_cmp p q ≡ Less → path_cmp q p ≡ Greater
reversed p q e = path_cmp_total.antisymm q p ∙ ap ordering_reverse e

-- none of the paths that come before is the one that is sought
none_before : (q : List ℕ) (paths : List (List ℕ)) → AllByRecursion (λ p. path_cmp p q ≡ Less) paths → list_any (same q) paths ≡ false
none_before q [] h = refl
none_before q (p ∷ paths) h = λ i. other p q Greater (reversed p q h.0) refl i || none_before q paths h.1 i

none_behind : (q : List ℕ) (paths : List (List ℕ)) → AllByRecursion (λ p. path_cmp q p ≡ Less) paths → list_any (same q) paths ≡ false
none_behind q [] h = refl
none_behind q (p ∷ paths) h = λ i. other p q Less h.0 refl i || none_behind q paths h.1 i

-- they are behind the place, if at all
behind : (paths : List (List ℕ)) (at : ℕ) (q : List ℕ) → IsPassed paths at q → list_any (same q) paths ≡ list_any (same q) (drop at paths)
behind paths at q h =
    ap (list_any (same q)) (sym (take-append-drop at paths)) ∙ list_any-append (same q) (take at paths) (drop at paths)
    ∙ (λ i. none_before q (take at paths) (recursion_from_All (λ p. path_cmp p q ≡ Less) (take at paths) h.before) i || list_any (same q) (drop at paths))

sorted_drop : (at : ℕ) (paths : List (List ℕ)) → IsStrictlySortedBy path_cmp paths → IsStrictlySortedBy path_cmp (drop at paths)
unfolding IsStrictlySortedBy
sorted_drop zero paths s = s
sorted_drop (suc at) [] s = tt
sorted_drop (suc at) (p ∷ paths) s = sorted_drop at paths s.1

none_from : (q : List ℕ) (paths : List (List ℕ)) (x : List ℕ) (rest : List (List ℕ)) → paths ≡ x ∷ rest → IsStrictlySortedBy path_cmp paths →
    path_cmp q x ≡ Less →
    list_any (same q) paths ≡ false
unfolding IsStrictlySortedBy
none_from q paths x rest is s e =
    let t = subst (IsStrictlySortedBy path_cmp) is s in
    ap (list_any (same q)) is ∙ none_behind q (x ∷ rest) (e, higher q x rest e t.0)

-- no path is left
pub at_end : (paths : List (List ℕ)) (at : ℕ) (q : List ℕ) → IsPassed paths at q → length paths ≤ at → list_any (same q) paths ≡ false
at_end paths at q h l = behind paths at q h ∙ ap (list_any (same q)) (drop_all at paths l)

-- the next one is the one that is sought
pub at_same : (paths : List (List ℕ)) (at : ℕ) (q x : List ℕ) → IsPassed paths at q → at < length paths → x ≡ get_or paths at x → path_cmp x q ≡ Equal →
    list_any (same q) paths ≡ true
at_same paths at q x h l is e =
    behind paths at q h ∙ ap (list_any (same q)) (drop-cons paths at x l)
    ∙ (λ i. ((bytes_decides q (get_or paths at x)).1 (sym (path_cmp_same x q e) ∙ is)) i || list_any (same q) (drop (suc at) paths))

-- or comes after it
pub at_later : (paths : List (List ℕ)) (at : ℕ) (q x : List ℕ) → IsStrictlySortedBy path_cmp paths → IsPassed paths at q → at < length paths →
    x ≡ get_or paths at x →
    path_cmp x q ≡ Greater → list_any (same q) paths ≡ false
at_later paths at q x s h l is e =
    behind paths at q h
    ∙ none_from q (drop at paths) (get_or paths at x) (drop (suc at) paths) (drop-cons paths at x l) (sorted_drop at paths s)
    (subst (λ y. path_cmp q y ≡ Less) is (path_cmp_total.antisymm q x ∙ ap ordering_reverse e))

-- one more comes before it
pub one_passed : (paths : List (List ℕ)) (at : ℕ) (q x : List ℕ) → IsPassed paths at q → at < length paths → x ≡ get_or paths at x → path_cmp x q ≡ Less →
    IsPassed paths (at + 1) q
one_passed paths at q x h l is e = record {
  inside = omega (arith, l);
  before =
      subst (All (λ p. path_cmp p q ≡ Less)) (sym (rw (add-one, take-suc paths at x l)))
      (All-push (λ p. path_cmp p q ≡ Less) (take at paths) (get_or paths at x) h.before (subst (λ y. path_cmp y q ≡ Less) is e));
}
