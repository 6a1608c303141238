-- Where an entry stands whose directory was listed.
use Rattle.copy_report.proofs.Prelude.{◌≡◌, ◌⊎◌, inl, inr, ⊎_elim, ℕ, true, false, cond, ◌||◌, ◌&&◌, List, [], ◌∷◌, map, Option, Some, None, refl, ap, ◌∙◌, sym}
use Rattle.copy_report.proofs.Prelude.{false≢true, or_left, or_right, and_parts, or_cases, is_some, nat_eq, list_any, filter, pointwise, bytes_decides, Stat}
use Rattle.copy_report.proofs.Prelude.{Entry, is_of, target_of, is_target, Pair, has_dir, In}
use Rattle.outside.specs.declared.trees.Kind.TheVariants as kind

among : (x : List ℕ) (xs : List (List ℕ)) → list_any (pointwise nat_eq x) xs ≡ true → In x xs
among x [] e = absurd (false≢true e)
among x (y ∷ ys) e =
    ⊎_elim (λ here. inl ((bytes_decides x y).0 here)) (λ more. inr (among x ys more)) (or_cases (pointwise nat_eq x y) (list_any (pointwise nat_eq x) ys) e)

-- the entry stands at a root, or its directory has an entry
pub comes : (roots : List (List ℕ)) (list : List Entry) (x q : List ℕ) → (list_any (pointwise nat_eq x) roots || has_dir list q) ≡ true →
    In x roots ⊎ (has_dir list q ≡ true)
comes roots list x q e = ⊎_elim (λ here. inl (among x roots here)) (λ dir. inr dir) (or_cases (list_any (pointwise nat_eq x) roots) (has_dir list q) e)

has_stat : (stat : Option Stat) → is_of kind.Dir stat ≡ true → is_some stat ≡ true
has_stat None e = absurd (false≢true e)
has_stat (Some stat) e = refl

-- where a directory with an entry goes is a target
pub has_target : (pairs : List Pair) (es : List Entry) (q : List ℕ) → has_dir es q ≡ true → is_target pairs es (target_of pairs q) ≡ true
has_target pairs [] q h = absurd (false≢true h)
has_target pairs (e ∷ es) q h =
    let t = target_of pairs q in
    let more = filter (λ (e : Entry). is_some e.stat) es in
    let found = or_cases (pointwise nat_eq q e.path && is_of kind.Dir e.stat) (has_dir es q) h in
    elim (is_some e.stat) as (λ b. is_some e.stat ≡ b →
    list_any (pointwise nat_eq t) (map (λ (e : Entry). target_of pairs e.path) (cond b (e ∷ more) more)) ≡ true) [
      | true ↦ λ _. ⊎_elim
          (λ here. or_left (pointwise nat_eq t (target_of pairs e.path)) _ ((bytes_decides t (target_of pairs e.path)).1
          (ap (target_of pairs) ((bytes_decides q e.path).0 (and_parts (pointwise nat_eq q e.path) (is_of kind.Dir e.stat) here).0))))
          (λ later. or_right (pointwise nat_eq t (target_of pairs e.path)) _ (has_target pairs es q later)) found
      | false ↦ λ off. ⊎_elim
          (λ here. absurd (false≢true (sym off ∙ has_stat e.stat (and_parts (pointwise nat_eq q e.path) (is_of kind.Dir e.stat) here).1)))
          (λ later. has_target pairs es q later) found
    ] refl
