-- The path over a path.
use Rattle.files_mem.proofs.Prelude.{◌≡◌, ◌≢◌, ℕ, ◌+◌, ◌-◌, ◌<◌, true, false, not, cond, List, [], ◌∷◌, length, take, get_or, length-take, Option, Some, None}
use Rattle.files_mem.proofs.Prelude.{refl, ap, ◌∙◌, sym, arith, eqb, MatchOption, option_map, before_last, suffix_len, suffix_len_is, nat_tests, get, lookup}
use Rattle.files_mem.proofs.Prelude.{is_at, eq_by_cmp, bytes_decides, path_cmp, path_cmp_ties, PathError, is_slash, refusal, parent_of, node_of, files_of}
use Rattle.files_mem.proofs.Prelude.{AllValid, no_slash}
use Rattle.files_mem.specs.declared.nodes.Node as stored
use Rattle.files_mem.proofs.Found.{get_is}

on : (b : ℕ) → b ≡ 47 → not (is_slash b) ≡ false
on b e = grind (arith, nat_tests)

before_is : (xs : List ℕ) (k : ℕ) → k < length xs → get_or xs k 0 ≡ 47 → ((i : ℕ) → k < i → i < length xs → get_or xs i 0 ≢ 47)
    → before_last is_slash xs ≡ take k xs
before_is xs k l e h =
    let n : suffix_len (λ x. not (is_slash x)) xs ≡ length xs - (k + 1) =
    suffix_len_is (λ x. not (is_slash x)) xs (k + 1) 0 (omega arith) (λ i p q. no_slash (get_or xs i 0) (h i (omega arith) q))
    (λ _. on (get_or xs (k + 1 - 1) 0) (ap (λ i. get_or xs i 0) (back k) ∙ e)) in
    ap (λ i. take i xs) (omega arith)
  where
    back : (k : ℕ) → k + 1 - 1 ≡ k
    back k = omega arith

before_none : (xs : List ℕ) → ((i : ℕ) → i < length xs → get_or xs i 0 ≢ 47) → before_last is_slash xs ≡ []
before_none xs h =
    let n : suffix_len (λ x. not (is_slash x)) xs ≡ length xs - 0 =
    suffix_len_is (λ x. not (is_slash x)) xs 0 0 (omega arith) (λ i p q. no_slash (get_or xs i 0) (h i q)) (λ z. absurd (omega arith)) in
    ap (λ i. take i xs) (the_zero (length xs) (suffix_len (λ x. not (is_slash x)) xs) n)
  where
    the_zero : (a b : ℕ) → b ≡ a - 0 → a - b - 1 ≡ 0
    the_zero a b e = omega arith

short_take : (xs : List ℕ) (k : ℕ) → k < length xs → length (take k xs) ≡ k
short_take xs k l = omega (arith, length-take {A = ℕ})

abbrev pub or_root : List ℕ → List ℕ
or_root before = cond (eqb (length before) 0) (47 ∷ []) before

-- what is not a path is at no key
pub none_at : (es : List (List ℕ × stored.Node)) (q : List ℕ) (e : PathError) → AllValid es → refusal q ≡ Some e → get (files_of es) q ≡ None
none_at es q e a r = get_is q es ∙ ap (option_map node_of) (not_found es a)
  where
    not_found : (es : List (List ℕ × stored.Node)) → AllValid es → lookup (is_at (path_cmp q)) es ≡ None
    not_found [] a = refl
    not_found (f ∷ es) a =
        elim (eq_by_cmp path_cmp q f.0) as (λ b. eq_by_cmp path_cmp q f.0 ≡ b → cond b (Some f.1) (lookup (is_at (path_cmp q)) es) ≡ None) [
          | true ↦ λ is. absurd (clash (sym r ∙ ap refusal ((bytes_decides q f.0).0 (path_cmp_ties q f.0 ∙ is)) ∙ a.0))
          | false ↦ λ is. not_found es a.1
        ] refl
      where
        clash : Some e ≡ None → ⊥
        clash h = cc

-- by what `rfind` answers
pub parent_is : (xs : List ℕ) (r : Option ℕ)
    → MatchOption r ((i : ℕ) → i < length xs → get_or xs i 0 ≢ 47)
    (λ k. (k < length xs) × (get_or xs k 0 ≡ 47) × ((i : ℕ) → k < i → i < length xs → get_or xs i 0 ≢ 47)) →
    parent_of xs ≡ elim r [ None ↦ 47 ∷ [] | Some k ↦ cond (eqb k 0) (47 ∷ []) (take k xs) ]
parent_is xs None h = ap or_root (before_none xs h)
parent_is xs (Some k) h = ap or_root (before_is xs k h.0 h.1 h.2) ∙ ap (λ n. cond (eqb n 0) (47 ∷ []) (take k xs)) (short_take xs k h.0)
