-- What is leased of a tree is a part.
use Rattle.outside.proofs.Prelude.{◌≡◌, ℕ, Bool, true, false, cond, ◌||◌, List, Option, Some, None, refl, ap, ◌∙◌, sym, subst, nat_eq, slice_get, []}
use Rattle.outside.proofs.Prelude.{false≢true, slice_get_within, get_or_from_slice_get, list_any_at, get, pointwise, bytes_decides, is_within, is_under}
use Rattle.outside.proofs.Prelude.{parent_of, Files, Node, IsTree, is_dir, is_root, in_tops, leased, IsPart, AreTops, LeasesKeepTrees, under, is_top}
use Rattle.outside.proofs.Prelude.{parent_moves_too}
use Rattle.std.proofs.Common.{is_some}
use Rattle.outside.proofs.Leased.{at_tree, a_top, Standing, get_part, root_off, rest_is_tree, back_is_tree}
use Rattle.outside.proofs.Over.{valid_there}

some_of : (b : Bool) (o : Option Node) → is_some (cond b o None) ≡ true → (b ≡ true) × (is_some o ≡ true)
some_of true o e = (refl, e)
some_of false o e = absurd (false≢true e)

-- a top of the list
top_there : (tops : List (List ℕ)) (i : ℕ) (t : List ℕ) → slice_get tops i ≡ Some t → is_top (under tops) t ≡ true
top_there tops i t at = list_any_at (λ top. pointwise nat_eq top t) tops i [] (slice_get_within tops i t at)
    (ap (λ x. pointwise nat_eq x t) (get_or_from_slice_get tops i t [] at) ∙ (bytes_decides t t).1 refl)

in_by : (tops : List (List ℕ)) (i : ℕ) (t q : List ℕ) → slice_get tops i ≡ Some t → is_within q t ≡ true → in_tops tops q ≡ true
in_by tops i t q at on = list_any_at (is_within q) tops i [] (slice_get_within tops i t at) (ap (is_within q) (get_or_from_slice_get tops i t [] at) ∙ on)

part_of : (tops : List (List ℕ)) (files : Files) → AreTops tops → IsTree files → IsPart tops (leased tops files)
part_of tops files ok tree = record {
  inside = λ q s. (there q s).0;
  no_root = λ q s. off q (there q s).0;
  valid = λ q s. valid_there files tree q (there q s).1;
  parents = λ q s. by q (there q s).0 (there q s).1 (a_top tops q (there q s).0);
}
  where
    there : (q : List ℕ) → is_some (get (leased tops files) q) ≡ true → (in_tops tops q ≡ true) × (is_some (get files q) ≡ true)
    there q s = some_of (in_tops tops q) (get files q) (sym (ap is_some (get_part tops files q)) ∙ s)

    off : (q : List ℕ) → in_tops tops q ≡ true → is_root q ≡ false
    off q on = elim (is_root q) as (λ b. is_root q ≡ b → b ≡ false) [
      | true ↦ λ is. absurd (false≢true (sym (root_off tops q ok is) ∙ on))
      | false ↦ λ _. refl
    ] refl

    or_true : (b : Bool) → (b || true) ≡ true
    or_true true = refl
    or_true false = refl

    by : (q : List ℕ) → in_tops tops q ≡ true → is_some (get files q) ≡ true → Standing tops q
        → (is_top (under tops) q || is_dir (get (leased tops files) (parent_of q))) ≡ true
    by q on some s = elim (pointwise nat_eq q s.top) as
        (λ b. pointwise nat_eq q s.top ≡ b → (b || is_under q s.top) ≡ true
        → (is_top (under tops) q || is_dir (get (leased tops files) (parent_of q))) ≡ true) [
          | true ↦ λ is _. ap (λ b. b || is_dir (get (leased tops files) (parent_of q)))
              (subst (λ x. is_top (under tops) x ≡ true) (sym ((bytes_decides q s.top).0 is)) (top_there tops s.place s.top s.at))
          | false ↦ λ _ u.
              let p = at_tree files tree q in
              let r = off q on in
              let dir = p.in_dir r some in
              let within = parent_moves_too.within q s.top (p.fine r some) (ok.valid s.place s.top s.at) u in
              ap (λ b. is_top (under tops) q || b)
              (ap is_dir (get_part tops files (parent_of q)
              ∙ ap (λ b. cond b (get files (parent_of q)) None) (in_by tops s.place s.top (parent_of q) s.at within)) ∙ dir)
              ∙ or_true (is_top (under tops) q)
        ] refl s.on

pub leases_keep_trees : LeasesKeepTrees
leases_keep_trees = record { rest = rest_is_tree; part = part_of; back = back_is_tree }
