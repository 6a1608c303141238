-- The names in a directory are told by what is at and under it.
use Rattle.cut_laws.proofs.Prelude.{◌≡◌, ℕ, true, false, cond, List, [], ◌∷◌, map, Some, None, refl, ap, ◌∙◌, sym, false≢true, AllByRecursion, filter}
use Rattle.cut_laws.proofs.Prelude.{filter_map, cons_option, get, keys, entries, get-entries, entries_sorted, find, where_key, find-where_key}
use Rattle.cut_laws.proofs.Prelude.{is_sorted-where_key, same_entries, joined, path_cmp, front, path_cmp_total, path_cmp_same, front-joined, Files, Node}
use Rattle.cut_laws.proofs.Prelude.{name_below, names_in, child_is, one_name_parts, is_in, is_in_is, begins-itself, child_covers}

-- two trees are the same at and under the path
abbrev pub SameAt : List ℕ → Files → Files → Type 0
SameAt p old new = (q : List ℕ) → is_in q p ≡ true → get new q ≡ get old q

-- ---- what has a name below a path is under it

child_path : (p q m : List ℕ) → name_below p q ≡ Some m → q ≡ joined p m
child_path p q m e = (child_is p q m e).0 ∙ front-joined p m

child_in : (p q m : List ℕ) → name_below p q ≡ Some m → is_in (joined p m) p ≡ true
child_in p q m e =
    is_in_is (joined p m) p ∙ child_covers (joined p m) p m (one_name_parts m (child_is p q m e).1).0 (begins-itself (front (joined p m)))

no_name : (p q : List ℕ) → is_in q p ≡ false → name_below p q ≡ None
no_name p q out = elim (name_below p q) as (λ o. name_below p q ≡ o → o ≡ None) [
  | None ↦ λ e. refl
  | Some m ↦ λ e. absurd (false≢true (sym out ∙ ap (λ x. is_in x p) (child_path p q m e) ∙ child_in p q m e))
] refl

each_in : (p : List ℕ) (qs : List (List ℕ)) → AllByRecursion (λ q. is_in q p ≡ true) (map (joined p) (filter_map (name_below p) qs))
each_in p [] = tt
each_in p (q ∷ qs) =
    let rest = filter_map (name_below p) qs in
    elim (name_below p q) as (λ o. name_below p q ≡ o → AllByRecursion (λ x. is_in x p ≡ true) (map (joined p) (cons_option o rest))) [
      | None ↦ λ e. each_in p qs
      | Some m ↦ λ e. (child_in p q m e, each_in p qs)
    ] refl

pub children_in : (files : Files) (p : List ℕ) → AllByRecursion (λ q. is_in q p ≡ true) (map (joined p) (names_in files p))
children_in files p = each_in p (keys files)

-- ---- so the names are those in what is at and under it

names_of : (p : List ℕ) (es : List (List ℕ × Node)) →
    filter_map (name_below p) (map (λ e. e.0) (filter (λ e. is_in e.0 p) es)) ≡ filter_map (name_below p) (map (λ e. e.0) es)
names_of p [] = refl
names_of p (e ∷ es) =
    let kept = filter (λ (e : List ℕ × Node). is_in e.0 p) es in
    let names = filter_map (name_below p) (map (λ (e : List ℕ × Node). e.0) es) in
    elim (is_in e.0 p) as
    (λ b. is_in e.0 p ≡ b → filter_map (name_below p) (map (λ (e : List ℕ × Node). e.0) (cond b (e ∷ kept) kept)) ≡ cons_option (name_below p e.0) names) [
      | true ↦ λ h. ap (cons_option (name_below p e.0)) (names_of p es)
      | false ↦ λ h. names_of p es ∙ sym (ap (λ o. cons_option o names) (no_name p e.0 h))
    ] refl

-- the entries of what is at and under the path
abbrev part : List ℕ → Files → List (List ℕ × Node)
part p files = where_key path_cmp (λ q. is_in q p) (entries files)

find_in_part : (p : List ℕ) (files : Files) (q : List ℕ) → find path_cmp q (part p files) ≡ cond (is_in q p) (get files q) None
find_in_part p files q =
    find-where_key path_cmp (λ q. is_in q p) q (λ x e. ap (λ y. is_in y p) (sym (path_cmp_same q x e))) (entries files)
    ∙ ap (λ o. cond (is_in q p) o None) (sym (get-entries files q))

part_same : (p : List ℕ) (old new : Files) → SameAt p old new → part p new ≡ part p old
part_same p old new same =
    let sorted = λ (files : Files). is_sorted-where_key path_cmp (λ q. is_in q p) (entries files) (entries_sorted files) in
    same_entries path_cmp path_cmp_total path_cmp_same (part p new) (part p old) (sorted new) (sorted old)
    (λ q. find_in_part p new q ∙ alike q ∙ sym (find_in_part p old q))
  where
    alike : (q : List ℕ) → cond (is_in q p) (get new q) None ≡ cond (is_in q p) (get old q) None
    alike q = elim (is_in q p) as (λ b. is_in q p ≡ b → cond b (get new q) None ≡ cond b (get old q) None) [
      | true ↦ λ h. same q h
      | false ↦ λ h. refl
    ] refl

pub names_same : (p : List ℕ) (old new : Files) → SameAt p old new → names_in new p ≡ names_in old p
names_same p old new same =
    sym (names_of p (entries new)) ∙ ap (λ es. filter_map (name_below p) (map (λ (e : List ℕ × Node). e.0) es)) (part_same p old new same)
    ∙ names_of p (entries old)
