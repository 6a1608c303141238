-- Leases keep trees.
use Rattle.outside.proofs.Prelude.{◌≡◌, ◌⊎◌, inl, inr, ℕ, suc, ◌<◌, Bool, true, false, cond, not, ◌||◌, ◌&&◌, List, [], ◌∷◌, Option, Some, None, refl, ap, ◌∙◌}
use Rattle.outside.proofs.Prelude.{sym, arith, nat_eq, slice_get, IsTrue, false≢true, get, get-retain_keys, pointwise, bytes_decides, is_within, is_under}
use Rattle.outside.proofs.Prelude.{refusal, parent_of, level_of, path_cmp_same, PathError, Files, Node, is_placed, is_dir, is_root, in_tops, leased, kept}
use Rattle.outside.proofs.Prelude.{Joins, HaveParents, IsPart, AreTops, is_top, as_deep, parent_above, parent_under, some_bytes, within_up}
use Rattle.std.proofs.Common.{is_some, is_none}
use Rattle.outside.specs.Tree.{IsTree}
use Rattle.outside.specs.Writes.{under as under_tops}

pub or_true : (b : Bool) → (b || true) ≡ true
or_true true = refl
or_true false = refl

or_cases : (a b : Bool) → (a || b) ≡ true → (a ≡ true) ⊎ (b ≡ true)
or_cases true b e = inl refl
or_cases false b e = inr e

in_one : (tops : List (List ℕ)) (q p t : List ℕ) → is_under q p ≡ true → (in_tops tops p ≡ true → in_tops tops q ≡ true)
    → (is_within p t ≡ true) ⊎ (in_tops tops p ≡ true) → (is_within q t || in_tops tops q) ≡ true
in_one tops q p t u more (inl on) = ap (λ b. b || in_tops tops q) (within_up q p t u on)
in_one tops q p t u more (inr on) = ap (λ b. is_within q t || b) (more on) ∙ or_true (is_within q t)

pub in_up : (tops : List (List ℕ)) (q p : List ℕ) → is_under q p ≡ true → in_tops tops p ≡ true → in_tops tops q ≡ true
in_up [] q p u e = absurd (false≢true e)
in_up (t ∷ tops) q p u e = in_one tops q p t u (in_up tops q p u) (or_cases (is_within p t) (in_tops tops p) e)

pub not_in_up : (tops : List (List ℕ)) (q p : List ℕ) → is_under q p ≡ true → in_tops tops q ≡ false → in_tops tops p ≡ false
not_in_up tops q p u off = elim (in_tops tops p) as (λ b. in_tops tops p ≡ b → b ≡ false) [
  | true ↦ λ on. absurd (false≢true (sym off ∙ in_up tops q p u on))
  | false ↦ λ _. refl
] refl

pub get_part : (tops : List (List ℕ)) (files : Files) (q : List ℕ) → get (leased tops files) q ≡ cond (in_tops tops q) (get files q) None
get_part tops files q = get-retain_keys files (in_tops tops) q (λ x e. ap (in_tops tops) (sym (path_cmp_same q x e)))

pub get_rest : (tops : List (List ℕ)) (files : Files) (q : List ℕ) → get (kept tops files) q ≡ cond (not (in_tops tops q)) (get files q) None
get_rest tops files q = get-retain_keys files (λ x. not (in_tops tops x)) q (λ x e. ap (λ y. not (in_tops tops y)) (sym (path_cmp_same q x e)))

pub record Standing (tops : List (List ℕ)) (q : List ℕ) : Type 0 where
  pub place : ℕ
  pub top : List ℕ
  pub at : slice_get tops place ≡ Some top
  pub on : is_within q top ≡ true

pub a_top : (tops : List (List ℕ)) (q : List ℕ) → in_tops tops q ≡ true → Standing tops q
a_top [] q e = absurd (false≢true e)
a_top (t ∷ tops) q e = elim (is_within q t) as (λ b. is_within q t ≡ b → (b || in_tops tops q) ≡ true → Standing (t ∷ tops) q) [
  | true ↦ λ is e. record { place = 0; top = t; at = refl; on = is }
  | false ↦ λ _ e. let s = a_top tops q e in record { place = suc s.place; top = s.top; at = s.at; on = s.on }
] refl e

above_root : (p : List ℕ) → refusal p ≡ None → is_root p ≡ false → 0 < level_of p
above_root p fine off = let a = parent_above p fine off in omega (arith, a)

-- what a tree says of a path, taken apart and put together

pub record Placed (files : Files) (q : List ℕ) : Type 0 where
  pub root : is_root q ≡ true → is_dir (get files q) ≡ true
  pub fine : is_root q ≡ false → is_some (get files q) ≡ true → refusal q ≡ None
  pub in_dir : is_root q ≡ false → is_some (get files q) ≡ true → is_dir (get files (parent_of q)) ≡ true

placed : (files : Files) (q : List ℕ) → IsTrue (is_placed files q) → Placed files q
placed files q e = record {
  root = λ r. by_root (is_root q) _ _ r e;
  fine = λ r s. fine_of (is_root q) _ (get files q) (refusal q) _ r s e;
  in_dir = λ r s. dir_of (is_root q) _ (get files q) (is_none (refusal q)) _ r s e;
}
  where
    by_root : (r a b : Bool) → r ≡ true → cond r a b ≡ true → a ≡ true
    by_root true a b is e = e
    by_root false a b is e = absurd (false≢true is)

    fine_of : (r a : Bool) (o : Option Node) (f : Option PathError) (d : Bool) → r ≡ false → is_some o ≡ true
        → cond r a (is_none o || (is_none f && d)) ≡ true → f ≡ None
    fine_of true a o f d r s e = absurd (false≢true (sym r))
    fine_of false a None f d r s e = absurd (false≢true s)
    fine_of false a (Some n) None d r s e = refl
    fine_of false a (Some n) (Some x) d r s e = absurd (false≢true e)

    dir_of : (r a : Bool) (o : Option Node) (f : Bool) (d : Bool) → r ≡ false → is_some o ≡ true → cond r a (is_none o || (f && d)) ≡ true → d ≡ true
    dir_of true a o f d r s e = absurd (false≢true (sym r))
    dir_of false a None f d r s e = absurd (false≢true s)
    dir_of false a (Some n) true d r s e = e
    dir_of false a (Some n) false d r s e = absurd (false≢true e)

unplaced : (files : Files) (q : List ℕ) → Placed files q → IsTrue (is_placed files q)
unplaced files q p = elim (is_root q) as
    (λ r. is_root q ≡ r → cond r (is_dir (get files q)) (is_none (get files q) || (is_none (refusal q) && is_dir (get files (parent_of q))))
    ≡ true) [
      | true ↦ λ is. p.root is
      | false ↦ λ off. by (get files q) refl off
    ] refl
  where
    by : (o : Option Node) → get files q ≡ o → is_root q ≡ false → (is_none o || (is_none (refusal q) && is_dir (get files (parent_of q)))) ≡ true
    by None e off = refl
    by (Some n) e off = ap (λ f. is_none f && is_dir (get files (parent_of q))) (p.fine off (ap is_some e)) ∙ p.in_dir off (ap is_some e)

-- `/` is never at or under a top
pub root_off : (tops : List (List ℕ)) (q : List ℕ) → AreTops tops → is_root q ≡ true → in_tops tops q ≡ false
root_off tops q t r = elim (in_tops tops q) as (λ b. in_tops tops q ≡ b → b ≡ false) [
  | true ↦ λ on. absurd (never (a_top tops q on))
  | false ↦ λ _. refl
] refl
  where
    q_is : q ≡ 47 ∷ []
    q_is = (bytes_decides q (47 ∷ [])).0 r

    never : Standing tops q → ⊥
    never s = omega (
      arith,
      as_deep q s.top (some_bytes s.top (t.valid s.place s.top s.at)) s.on,
      ap level_of q_is,
      above_root s.top (t.valid s.place s.top s.at) (t.no_root s.place s.top s.at),
    )

pub at_tree : (files : Files) → IsTree files → (q : List ℕ) → Placed files q
unfolding IsTree
at_tree files t q = placed files q (t q)

as_tree : (files : Files) → ((q : List ℕ) → Placed files q) → IsTree files
unfolding IsTree
as_tree files h q = unplaced files q (h q)

kept_some : (b : Bool) (o : Option Node) → is_some (cond (not b) o None) ≡ true → (b ≡ false) × (is_some o ≡ true)
kept_some true o e = absurd (false≢true e)
kept_some false o e = (refl, e)

pub rest_is_tree : (tops : List (List ℕ)) (files : Files) → AreTops tops → IsTree files → IsTree (kept tops files)
rest_is_tree tops files t tree = as_tree (kept tops files) (λ q. record {
  root = λ r. ap is_dir (same q (root_off tops q t r)) ∙ (at_tree files tree q).root r;
  fine = λ r s. (at_tree files tree q).fine r (there q s).1;
  in_dir = λ r s. let h = there q s in let p = at_tree files tree q in
      ap is_dir (same (parent_of q) (not_in_up tops q (parent_of q) (parent_under q (p.fine r h.1) r) h.0)) ∙ p.in_dir r h.1;
})
  where
    same : (q : List ℕ) → in_tops tops q ≡ false → get (kept tops files) q ≡ get files q
    same q off = get_rest tops files q ∙ ap (λ b. cond (not b) (get files q) None) off

    there : (q : List ℕ) → is_some (get (kept tops files) q) ≡ true → (in_tops tops q ≡ false) × (is_some (get files q) ≡ true)
    there q s = kept_some (in_tops tops q) (get files q) (sym (ap is_some (get_rest tops files q)) ∙ s)

the_top : (tops : List (List ℕ)) (q : List ℕ) → is_top (under_tops tops) q ≡ true → (i : ℕ) × (slice_get tops i ≡ Some q)
the_top [] q e = absurd (false≢true e)
the_top (t ∷ tops) q e =
    elim (pointwise nat_eq t q) as
    (λ b. pointwise nat_eq t q ≡ b → (b || is_top (under_tops tops) q) ≡ true → (i : ℕ) × (slice_get (t ∷ tops) i ≡ Some q)) [
      | true ↦ λ is e. (0, ap Some ((bytes_decides t q).0 is))
      | false ↦ λ _ e. let r = the_top tops q e in (suc r.0, r.1)
    ] refl e

pub dir_is_there : (o : Option Node) → is_dir o ≡ true → is_some o ≡ true
dir_is_there None e = absurd (false≢true e)
dir_is_there (Some n) e = refl

-- what a top stands in is neither a top nor under one
pub over_top : (tops : List (List ℕ)) → AreTops tops → (q : List ℕ) (i : ℕ) → slice_get tops i ≡ Some q → in_tops tops (parent_of q) ≡ false
over_top tops t q i at = elim (in_tops tops (parent_of q)) as (λ b. in_tops tops (parent_of q) ≡ b → b ≡ false) [
  | true ↦ λ on. absurd (let s = a_top tops (parent_of q) on in
      let a = as_deep (parent_of q) s.top (some_bytes s.top (t.valid s.place s.top s.at)) s.on in
      let b = parent_above q (t.valid i q at) (t.no_root i q at) in
      omega (arith, a, b, t.one_level i s.place q s.top at s.at))
  | false ↦ λ _. refl
] refl

pub back_is_tree : (tops : List (List ℕ)) (own rest after : Files) → AreTops tops → IsPart tops own → IsTree rest → HaveParents tops rest
    → Joins tops own rest after → IsTree after
back_is_tree tops own rest after t part tree dirs j = as_tree after (λ q. record {
  root = λ r. ap is_dir (off_is q (root_off tops q t r)) ∙ (at_tree rest tree q).root r;
  fine = λ r s. elim (in_tops tops q) as (λ b. in_tops tops q ≡ b → refusal q ≡ None) [
    | true ↦ λ on. part.valid q (sym (ap is_some (on_is q on)) ∙ s)
    | false ↦ λ off. (at_tree rest tree q).fine r (sym (ap is_some (off_is q off)) ∙ s)
  ] refl;
  in_dir = λ r s. elim (in_tops tops q) as (λ b. in_tops tops q ≡ b → is_dir (get after (parent_of q)) ≡ true) [
    | true ↦ λ on. let here = sym (ap is_some (on_is q on)) ∙ s in inner q r (part.valid q here) (or_cases (is_top (under_tops tops) q) _ (part.parents q here))
    | false ↦ λ off. let here = sym (ap is_some (off_is q off)) ∙ s in let p = at_tree rest tree q in
        ap is_dir (off_is (parent_of q) (not_in_up tops q (parent_of q) (parent_under q (p.fine r here) r) off)) ∙ p.in_dir r here
  ] refl;
})
  where
    on_is : (q : List ℕ) → in_tops tops q ≡ true → get after q ≡ get own q
    on_is q on = j q ∙ ap (λ b. cond b (get own q) (get rest q)) on

    off_is : (q : List ℕ) → in_tops tops q ≡ false → get after q ≡ get rest q
    off_is q off = j q ∙ ap (λ b. cond b (get own q) (get rest q)) off

    inner : (q : List ℕ) → is_root q ≡ false → refusal q ≡ None → (is_top (under_tops tops) q ≡ true)
        ⊎ (is_dir (get own (parent_of q)) ≡ true) → is_dir (get after (parent_of q)) ≡ true
    inner q r fine (inl top) = let i = the_top tops q top in ap is_dir (off_is (parent_of q) (over_top tops t q i.0 i.1)) ∙ dirs i.0 q i.1
    inner q r fine (inr dir) = ap is_dir (on_is (parent_of q) (part.inside (parent_of q) (dir_is_there (get own (parent_of q)) dir))) ∙ dir
