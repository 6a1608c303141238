-- A path is a child of its parent.
use Rattle.outside.proofs.Prelude.{◌≡◌, ℕ, ◌<◌, true, false, not, cond, ◌&&◌, ◌||◌, List, [], ◌∷◌, length, Option, Some, None, refl, ap, ◌∙◌, sym, arith}
use Rattle.outside.proofs.Prelude.{false≢true, nat_tests, ◌==◌, list_any, filter_map, cons_option, get, keys, contains_key-keys, is_some, eq_by_cmp}
use Rattle.outside.proofs.Prelude.{bytes_decides, path_cmp, path_cmp_ties, cut, is_slash, refusal, parent_of, Files, is_root, is_one_name, name_below, names_in}
use Rattle.outside.proofs.Prelude.{ChildrenHaveParents}
use Rattle.outside.proofs.Children.{name_below-front}

one_name : (name : List ℕ) → 0 < length name → list_any is_slash name ≡ false → is_one_name name ≡ true
one_name name some bare = ap (λ s. not (length name == 0) && not s) bare ∙ ap (λ s. not s && true) (not_zero (length name) some)
  where
    not_zero : (n : ℕ) → 0 < n → (n == 0) ≡ false
    not_zero n l = grind (arith, nat_tests)

-- a path other than `/` is a child of its parent
pub child_of_parent : ChildrenHaveParents
child_of_parent q fine off =
    let c = cut q fine off in
    ap is_some (name_below-front (parent_of q) q c.name c.whole ∙ ap (λ b. cond b (Some c.name) None) (one_name c.name c.some c.bare))

-- so where no name is in a directory, no path has it as its parent

some_name : (p q : List ℕ) (qs : List (List ℕ)) → list_any (eq_by_cmp path_cmp q) qs ≡ true → is_some (name_below p q) ≡ true
    → 0 < length (filter_map (name_below p) qs)
some_name p q [] e s = absurd (false≢true e)
some_name p q (x ∷ qs) e s =
    elim (eq_by_cmp path_cmp q x) as
    (λ b. eq_by_cmp path_cmp q x ≡ b → (b || list_any (eq_by_cmp path_cmp q) qs) ≡ true
    → 0 < length (cons_option (name_below p x) (filter_map (name_below p) qs))) [
      | true ↦ λ is h. first (name_below p x) (ap (λ y. is_some (name_below p y)) (sym ((bytes_decides q x).0 (path_cmp_ties q x ∙ is))) ∙ s)
      | false ↦ λ is h. later (name_below p x) (some_name p q qs h s)
    ] refl e
  where
    first : (o : Option (List ℕ)) → is_some o ≡ true → 0 < length (cons_option o (filter_map (name_below p) qs))
    first None h = absurd (false≢true h)
    first (Some n) h = omega arith

    later : (o : Option (List ℕ)) → 0 < length (filter_map (name_below p) qs) → 0 < length (cons_option o (filter_map (name_below p) qs))
    later None h = h
    later (Some n) h = omega arith

pub no_child : (files : Files) (p q : List ℕ) → length (names_in files p) ≡ 0 → refusal q ≡ None → is_root q ≡ false
    → is_some (get files q) ≡ true → parent_of q ≡ p → ⊥
no_child files p q none fine off here over =
    let there : list_any (eq_by_cmp path_cmp q) (keys files) ≡ true = sym (contains_key-keys files q) ∙ here in
    let more = some_name p q (keys files) there (ap (λ r. is_some (name_below r q)) (sym over) ∙ child_of_parent q fine off) in
    omega arith
