-- Names in a directory, and what stands under it.
use Rattle.tree_remove.proofs.Prelude.{◌≡◌, ℕ, ◌-◌, ◌<◌, Bool, true, false, cond, not, ◌||◌, ◌&&◌, List, [], ◌∷◌, length, drop, Option, Some, None, refl, ap}
use Rattle.tree_remove.proofs.Prelude.{◌∙◌, sym, arith, nat_eq, nat_lt, is_some, length-drop, false≢true, or_right, nat_tests, ◌==◌, filter_map, list_any}
use Rattle.tree_remove.proofs.Prelude.{starts_with, cons_option, get, keys, contains_key-keys, eq_by_cmp, pointwise, path_cmp, is_within, is_under, front}
use Rattle.tree_remove.proofs.Prelude.{path_cmp_ties, Files, names_in, name_below, at_and_under, HasUnder, get_at, at_itself}

-- a path with a name below another, among some paths
pub record Named (p : List ℕ) (qs : List (List ℕ)) : Type 0 where
  pub path : List ℕ
  pub named : is_some (name_below p path) ≡ true
  pub among : list_any (eq_by_cmp path_cmp path) qs ≡ true

name_here : (p x : List ℕ) (qs : List (List ℕ)) (o : Option (List ℕ)) → name_below p x ≡ o → (0 < length (filter_map (name_below p) qs) → Named p qs) →
    0 < length (cons_option o (filter_map (name_below p) qs)) → Named p (x ∷ qs)
name_here p x qs (Some n) e rest l = record {
  path = x;
  named = ap is_some e;
  among = ap (λ b. b || list_any (eq_by_cmp path_cmp x) qs) (sym (path_cmp_ties x x) ∙ at_itself x);
}
name_here p x qs None e rest l =
    let r = rest l in record { path = r.path; named = r.named; among = or_right (eq_by_cmp path_cmp r.path x) _ r.among }

pub some_named : (p : List ℕ) (qs : List (List ℕ)) → 0 < length (filter_map (name_below p) qs) → Named p qs
some_named p [] l = absurd (omega arith)
some_named p (x ∷ qs) l = name_here p x qs (name_below p x) refl (some_named p qs) l

-- what has a name below a path is under it
pub named_under : (p q : List ℕ) → is_some (name_below p q) ≡ true → is_under q p ≡ true
named_under p q e =
    let s = split (starts_with nat_eq q (front p)) (length (drop (length (front p)) q) == 0) _ _ e in
    ap (λ b. b && nat_lt (length (front p)) (length q)) s.0
    ∙ longer (length (drop (length (front p)) q)) (length (front p)) (length q) (length-drop (length (front p)) q) s.1
  where
    split : (a c d : Bool) (name : List ℕ) → is_some (cond (a && (not c && d)) (Some name) None) ≡ true → (a ≡ true) × (c ≡ false)
    split true true d name e = absurd (false≢true e)
    split true false d name e = (refl, refl)
    split false c d name e = absurd (false≢true e)

    longer : (k m n : ℕ) → k ≡ n - m → (k == 0) ≡ false → nat_lt m n ≡ true
    longer k m n e off = grind (arith, nat_tests)

pub under_within : (q p : List ℕ) → is_under q p ≡ true → is_within q p ≡ true
under_within q p e = or_right (pointwise nat_eq q p) (is_under q p) e

-- where a directory has a name, something stands under it
pub some_under : (files : Files) (p : List ℕ) → 0 < length (names_in (at_and_under p files) p) → HasUnder files p
some_under files p l =
    let part = at_and_under p files in
    let k = some_named p (keys part) l in
    let u = named_under p k.path k.named in
    let seen : get part k.path ≡ get files k.path = get_at p files k.path ∙ ap (λ b. cond b (get files k.path) None) (under_within k.path p u) in
    record { what = k.path; under = u; there = ap is_some (sym seen) ∙ contains_key-keys part k.path ∙ k.among }
