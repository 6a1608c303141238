-- A share that is leased, worked on and given back.
use Rattle.level_work.proofs.Prelude.{◌≡◌, ◌≢◌, ℕ, zero, suc, ◌+◌, ◌<◌, Bool, true, false, not, ◌&&◌, List, [], ◌∷◌, ◌++◌, length, Option, Some, refl, ap, ◌∙◌}
use Rattle.level_work.proofs.Prelude.{sym, subst, arith, nat_eq, eqb, length-append, slice_get, IsTrue, false≢true, nat_tests, slice_get_within}
use Rattle.level_work.proofs.Prelude.{get_or_from_slice_get, list_any_at, list_any, pointwise, bytes_decides, is_within, level_of, is_root, Area, nothing_lent}
use Rattle.level_work.proofs.Prelude.{under, is_top, is_open, in_tops, same_tops, CanLease, IsAt, AreApart, Ready, ArePaths, AreFirstPaths, IsShare, Item, Lot}
use Rattle.level_work.proofs.Prelude.{itself, slice_end, at_itself, exact_unsigned_eq}
use Rattle.level_work.proofs.Working.{item_at, other_number, same_some}

get_front : {X : Type 0} (xs : List X) (y : X) (j : ℕ) → j < length xs → slice_get (xs ++ y ∷ []) j ≡ slice_get xs j
get_front [] y j l = absurd (omega arith)
get_front (x ∷ xs) y zero l = refl
get_front (x ∷ xs) y (suc j) l = get_front xs y j (omega arith)

pub one_path_more : (items : List Item) (places : List ℕ) (paths : List (List ℕ)) (n : ℕ) (p : List ℕ) → AreFirstPaths n items places paths
    → ((x : Item) → IsAt items places n x → p ≡ x.path) → AreFirstPaths (n + 1) items places (paths ++ p ∷ [])
one_path_more items places paths n p a h = record {
  len = length-append paths (p ∷ []) ∙ ap (λ k. k + 1) a.len;
  of_item = λ j x l at. elim (eqb j n) as (λ b. eqb j n ≡ b → slice_get (paths ++ p ∷ []) j ≡ Some x.path) [
    | true ↦ λ is. let e = exact_unsigned_eq j n is in
        ap (slice_get (paths ++ p ∷ [])) (e ∙ sym a.len) ∙ slice_end paths p ∙ ap Some (h x (subst (λ k. IsAt items places k x) e at))
    | false ↦ λ off. get_front paths p j (omega (arith, a.len, before j n l off)) ∙ a.of_item j x (before j n l off) at
  ] refl;
}
  where
    before : (j n : ℕ) → j < n + 1 → eqb j n ≡ false → j < n
    before j n l e = grind (arith, nat_tests)

pub no_path_yet : (items : List Item) (places : List ℕ) → AreFirstPaths 0 items places []
no_path_yet items places = record { len = refl; of_item = λ j x l at. absurd (omega (arith, l)) }

pub all_paths : (items : List Item) (places : List ℕ) (paths : List (List ℕ)) (n : ℕ) → n ≡ length places
    → AreFirstPaths n items places paths → ArePaths items places paths
all_paths items places paths n e a =
    record { len = a.len ∙ e; of_item = λ j x at. a.of_item j x (omega (arith, e, slice_get_within places j at.place at.at)) at }

module _ (items : List Item) (places : List ℕ) (tops : List (List ℕ)) (s : IsShare items places) (a : ArePaths items places tops) where
  pub item_of : (i : ℕ) (p : List ℕ) → slice_get tops i ≡ Some p → (x : Item) × (IsAt items places i x × (x.path ≡ p))
  item_of i p e =
      let x = item_at items places i (omega (arith, a.len, slice_get_within tops i p e)) s.inside in
      (x.0, (x.1, same_some x.0.path p (sym (a.of_item i x.0 x.1) ∙ e)))

  pub can_lease : CanLease nothing_lent tops
  can_lease = record {
    distinct = λ i j p h k. elim (eqb i j) as (λ b. eqb i j ≡ b → i ≡ j) [
      | true ↦ λ is. exact_unsigned_eq i j is
      | false ↦ λ off. absurd (clash i j p h k (other_number i j off))
    ] refl;
    one_level = λ i j x y h k. let u = item_of i x h in let v = item_of j y k in
        sym (ap level_of u.1.1) ∙ s.one_level i j u.0 v.0 u.1.0 v.1.0 ∙ ap level_of v.1.1;
    are_open = λ i x h. let u = item_of i x h in ap not (sym (ap is_root u.1.1) ∙ s.no_root i u.0 u.1.0);
  }
    where
      clash : (i j : ℕ) (p : List ℕ) → slice_get tops i ≡ Some p → slice_get tops j ≡ Some p → i ≢ j → ⊥
      clash i j p h k off = let u = item_of i p h in let v = item_of j p k in
          false≢true (sym (s.apart i j u.0 v.0 off u.1.0 v.1.0) ∙ ap (λ r. is_within r v.0.path) (u.1.1 ∙ sym v.1.1) ∙ itself v.0.path)

  in_any : (f : List ℕ → Bool) (j : ℕ) (x : Item) → IsAt items places j x → f x.path ≡ true → list_any f tops ≡ true
  in_any f j x at e =
      let h = a.of_item j x at in
      list_any_at f tops j [] (slice_get_within tops j x.path h) (ap f (get_or_from_slice_get tops j x.path [] h) ∙ e)

  pub inside_tops : (j : ℕ) (x : Item) (q : List ℕ) → IsAt items places j x → is_within q x.path ≡ true → in_tops tops q ≡ true
  inside_tops j x q at on = in_any (is_within q) j x at on

  pub is_ready : {A P : Type 0} (area : Option P → Area) (lot : Lot A P) → lot.places.items ≡ places → lot.fates.items ≡ []
      → lot.lost ≡ false → area lot.part ≡ under tops → Ready area items lot
  is_ready area lot same fresh found here = record {
    fresh = fresh;
    found = found;
    inside = subst (λ ps. (j k : ℕ) → slice_get ps j ≡ Some k → k < length items) (sym same) s.inside;
    tops = subst (λ ps. (j : ℕ) (x : Item) → IsAt items ps j x → IsTrue (is_top (area lot.part) x.path)) (sym same)
        (λ j x at. ap (λ r. is_top r x.path) here
        ∙ in_any (λ top. pointwise nat_eq top x.path) j x at ((bytes_decides x.path x.path).1 refl));
    are_open = subst (λ ps. (j : ℕ) (x : Item) → IsAt items ps j x → IsTrue (is_open (area lot.part) x.path)) (sym same)
        (λ j x at. ap (λ r. is_open r x.path) here ∙ ap (λ b. b && not (is_root x.path)) (inside_tops j x x.path at (itself x.path))
        ∙ ap not (s.no_root j x at));
    apart = subst (AreApart items) (sym same) s.apart;
  }

pub same_tops_self : (tops : List (List ℕ)) → same_tops tops tops ≡ true
same_tops_self [] = refl
same_tops_self (x ∷ tops) = ap (λ b. b && same_tops tops tops) (at_itself x) ∙ same_tops_self tops
