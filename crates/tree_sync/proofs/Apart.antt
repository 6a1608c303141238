-- The two sides are apart: no path within the source is within the target. So no path off the target is removed or written.
use Rattle.tree_sync.proofs.Prelude.{◌≡◌, ⊎_elim, ℕ, Bool, true, false, cond, ◌||◌, ◌&&◌, List, [], ◌∷◌, filter, Option, Some, None, IfSome, refl, ap, ◌∙◌, sym}
use Rattle.tree_sync.proofs.Prelude.{subst, arith, nat_eq, is_some, IsTrue, get, All, list_any, option_map, pointwise, bytes_decides, false≢true}
use Rattle.tree_sync.proofs.Prelude.{false_from_ne_true, or_parts, or_left, and_parts, All-filter, All-map, list_any_none, below_of, grafted, path_cmp}
use Rattle.tree_sync.proofs.Prelude.{is_within, refusal, parent_of, below_undoes_graft, parent_under, below_made, same_or_under, tops_are_nested, under_longer}
use Rattle.tree_sync.proofs.Prelude.{under_no_root, within_longer, within_root, Files, Node, IsTree, NodesHavePaths, is_root, kind_of, stat_of, Stat, Entry}
use Rattle.tree_sync.proofs.Prelude.{paths, Exist, Two, Row, StatsTold, side, AreChosen, AreThere, SameButChosen, Pair, CanCopy, SameButTargets, is_target}
use Rattle.tree_sync.proofs.Prelude.{target_of, targets_of, treated, overlap, Known, AreTold, SameOutside, chosen_of, copied_of, is_both, is_chosen, is_common}
use Rattle.tree_sync.proofs.Prelude.{is_copied, is_differ, is_foreign, is_only_dest, is_there, row_at}
use Rattle.std.specs.List.Sorted.{IsStrictlySortedBy}
use Rattle.tree_cmp.specs.declared.rows.Exist.TheVariants as exist
use Rattle.tree_cmp.specs.declared.rows.Two.TheVariants as two
use Rattle.tree_sync.proofs.Kept.{kept_ascends}
use Rattle.tree_sync.proofs.Members.{of_kept}
use Rattle.tree_sync.proofs.Sided.{IsTold, StatTold, all_told, valid_of}

pub ascends_kept : (b : Bool) (p : Entry → Bool) (es : List Entry) → IsStrictlySortedBy path_cmp (paths es) →
    IsStrictlySortedBy path_cmp (paths (cond b (filter p es) []))
unfolding IsStrictlySortedBy
ascends_kept b p es s =
    elim b as (λ b. IsStrictlySortedBy path_cmp (paths (cond b (filter p es) []))) [ true ↦ kept_ascends (λ (e : Entry). e.path) p es s | false ↦ tt ]

-- none of two paths is within the other
pub record AreApart (s t : List ℕ) : Type 0 where
  pub first : is_within s t ≡ false
  pub second : is_within t s ≡ false

pub are_apart : (s t : List ℕ) → overlap (s ∷ t ∷ []) ≡ false → AreApart s t
are_apart s t e =
    let meet = is_within s t || is_within t s in
    let parts = or_parts (is_within s t) (is_within t s) (or_parts meet false (or_parts (meet || false) (false || false) e).0).0 in
    record { first = parts.0; second = parts.1 }

-- a path within one of them is not within the other
pub off_side : (s t x : List ℕ) → refusal s ≡ None → refusal t ≡ None → AreApart s t → is_within x s ≡ true → is_within x t ≡ false
off_side s t x v w apart h =
    false_from_ne_true (is_within x t) (λ g. ⊎_elim (λ m. false≢true (sym apart.first ∙ m)) (λ m. false≢true (sym apart.second ∙ m))
    (tops_are_nested x s t v w h g))

-- a path that is not within a top is none that is
off_path : (q x t : List ℕ) → is_within q t ≡ false → is_within x t ≡ true → pointwise nat_eq q x ≡ false
off_path q x t off w = false_from_ne_true (pointwise nat_eq q x) (λ s. false≢true (sym off ∙ ap (λ y. is_within y t) ((bytes_decides q x).0 s) ∙ w))

-- a path that is none of the entries', or none of their targets
none_there : (q : List ℕ) (es : List Entry) → All (λ e. pointwise nat_eq q e.path ≡ false) es → list_any (pointwise nat_eq q) (paths es) ≡ false
none_there q es h = list_any_none (pointwise nat_eq q) (paths es) (All-map (λ p. pointwise nat_eq q p ≡ false) (λ (e : Entry). e.path) es h)

pub none_goes : (pair : Pair) (q : List ℕ) (es : List Entry) → All (λ e. pointwise nat_eq q (target_of (pair ∷ []) e.path) ≡ false) es →
    is_target (pair ∷ []) es q ≡ false
none_goes pair q es h =
    list_any_none (pointwise nat_eq q) (targets_of (pair ∷ []) es)
    (All-map (λ t. pointwise nat_eq q t ≡ false) (λ (e : Entry). target_of (pair ∷ []) e.path) (treated es)
    (All-filter (λ (e : Entry). is_some e.stat) (λ e. pointwise nat_eq q (target_of (pair ∷ []) e.path) ≡ false) es h))

module _ (pair : Pair) (source dest : List Entry) (k : Known pair source dest) where
  apart : AreApart pair.source pair.target
  apart = are_apart pair.source pair.target k.can.apart

  pub source_off : (x : List ℕ) → is_within x pair.source ≡ true → is_within x pair.target ≡ false
  source_off x h = off_side pair.source pair.target x k.from k.to apart h

  pub target_low : is_root pair.target ≡ false
  target_low = false_from_ne_true (is_root pair.target) (λ r. false≢true (sym apart.first
      ∙ subst (λ t. is_within pair.source t ≡ true) (sym ((bytes_decides pair.target (47 ∷ [])).0 r)) (within_root pair.source k.from)))

  -- the path over the target is off it
  pub over_off : is_within (parent_of pair.target) pair.target ≡ false
  over_off = false_from_ne_true (is_within (parent_of pair.target) pair.target) (λ w.
      absurd (omega (
        arith,
        under_longer pair.target (parent_of pair.target) (parent_under pair.target k.to target_low),
        within_longer (parent_of pair.target) pair.target w,
      )))

  -- ---- the chosen entries can be removed

  low : (x : List ℕ) → is_within x pair.target ≡ true → is_root x ≡ false
  low x h = ⊎_elim (λ e. ap is_root e ∙ target_low) (λ u. under_no_root x pair.target u) (same_or_under x pair.target h)

  pub can_remove : (delete : Bool) (rows : List Row) → AreChosen (chosen_of delete (side pair.source source) (side pair.target dest) rows)
  can_remove delete rows =
      let l = side pair.source source in
      let r = side pair.target dest in
      let b = delete && is_there l in
      record {
        ascend = ascends_kept b (is_chosen l r rows) dest k.can.right.ascends;
        stats = of_kept b (is_chosen l r rows) (λ e. IsTrue (is_within e.path pair.target)) (λ e. is_some e.stat ≡ true) dest
            (λ e p _. (and_parts (is_some e.stat) _ p).0) k.can.right.within;
        lower = of_kept b (is_chosen l r rows) (λ e. IsTrue (is_within e.path pair.target)) (λ e. is_root e.path ≡ false) dest
            (λ e _ w. low e.path w) k.can.right.within;
      }

  kind_told : (o : Option Node) (s : Option Stat) → is_some s ≡ true → IfSome s (λ stat. option_map stat_of o ≡ Some stat) →
      option_map (λ n. kind_of n.body) o ≡ option_map (λ stat. stat.kind) s
  kind_told o None e t = absurd (false≢true e)
  kind_told None (Some s) e t = cc
  kind_told (Some n) (Some s) e t = ap (option_map (λ (stat : Stat). stat.kind)) t

  pub chosen_there : (delete : Bool) (rows : List Row) (files : Files) → StatsTold files dest →
      AreThere (chosen_of delete (side pair.source source) (side pair.target dest) rows) files
  chosen_there delete rows files told =
      let l = side pair.source source in
      let r = side pair.target dest in
      of_kept (delete && is_there l) (is_chosen l r rows) (StatTold files)
      (λ e. option_map (λ n. kind_of n.body) (get files e.path) ≡ option_map (λ stat. stat.kind) e.stat) dest
      (λ e p t. kind_told (get files e.path) e.stat (and_parts (is_some e.stat) _ p).0 t) told

  -- no path off the target was chosen
  pub not_chosen : (delete : Bool) (rows : List Row) (q : List ℕ) → is_within q pair.target ≡ false →
      list_any (pointwise nat_eq q) (paths (chosen_of delete (side pair.source source) (side pair.target dest) rows)) ≡ false
  not_chosen delete rows q off =
      let l = side pair.source source in
      let r = side pair.target dest in
      none_there q (chosen_of delete l r rows)
      (of_kept (delete && is_there l) (is_chosen l r rows) (λ e. IsTrue (is_within e.path pair.target)) (λ e. pointwise nat_eq q e.path ≡ false) dest
      (λ e _ w. off_path q e.path pair.target off w) k.can.right.within)

  -- nor was one whose row says that both sides have it as one kind
  row_kept : (row : Row) → is_both row.exist ≡ true → is_common row.kind ≡ true → is_foreign (Some row) ≡ false
  row_kept row b c = by row.exist row.kind b c
    where
      by : (x : Exist) (t : Two) → is_both x ≡ true → is_common t ≡ true → (is_only_dest x || is_differ t) ≡ false
      by exist.Common two.Common b c = refl
      by exist.Common _ b c = absurd (false≢true c)
      by exist.OnlySrc t b c = absurd (false≢true b)
      by exist.OnlyDest t b c = absurd (false≢true b)

  pub kept_not_chosen : (delete : Bool) (rows : List Row) (q : List ℕ) (row : Row) → row_at rows (below_of q pair.target) ≡ Some row →
      is_both row.exist ≡ true → is_common row.kind ≡ true →
      list_any (pointwise nat_eq q) (paths (chosen_of delete (side pair.source source) (side pair.target dest) rows)) ≡ false
  kept_not_chosen delete rows q row at b c =
      let l = side pair.source source in
      let r = side pair.target dest in
      none_there q (chosen_of delete l r rows)
      (of_kept (delete && is_there l) (is_chosen l r rows) (λ e. IsTrue (is_within e.path pair.target)) (λ e. pointwise nat_eq q e.path ≡ false) dest
      (λ e p _. false_from_ne_true (pointwise nat_eq q e.path) (λ s.
      let same = (bytes_decides q e.path).0 s in
      let foreign = (and_parts (is_foreign (row_at rows (below_of e.path pair.target))) _ (and_parts (is_some e.stat) _ p).1).0 in
      false≢true (sym (row_kept row b c) ∙ ap is_foreign (sym at) ∙ ap (λ x. is_foreign (row_at rows (below_of x pair.target))) same ∙ foreign)))
      k.can.right.within)

  -- ---- the wanting entries can be copied

  pub can_copy : (rows : List Row) → CanCopy (copied_of (side pair.source source) rows) (pair ∷ [])
  can_copy rows =
      let l = side pair.source source in
      record {
        ascend = ascends_kept (is_there l) (is_copied l rows) source k.can.left.ascends;
        in_source = of_kept (is_there l) (is_copied l rows) (λ e. IsTrue (is_within e.path pair.source))
            (λ e. list_any (λ pair. is_within e.path pair.source) (pair ∷ []) ≡ true) source
            (λ e _ w. or_left (is_within e.path pair.source) false w) k.can.left.within;
        apart = k.can.apart;
      }

  pub goes_to : (x : List ℕ) → is_within x pair.source ≡ true → target_of (pair ∷ []) x ≡ grafted pair.target (below_of x pair.source)
  goes_to x w = ap (λ b. cond b (grafted pair.target (below_of x pair.source)) []) w

  -- a target is within the destination
  pub goes_in : (x : List ℕ) → refusal x ≡ None → is_within x pair.source ≡ true → is_within (target_of (pair ∷ []) x) pair.target ≡ true
  goes_in x v w =
      subst (λ t. is_within t pair.target ≡ true) (sym (goes_to x w))
      (below_undoes_graft.within pair.target (below_of x pair.source) (below_made x pair.source (below_of x pair.source) refl v w))

  -- so no path off the destination is a target
  pub no_target : NodesHavePaths → (rows : List Row) (files : Files) → IsTree files → AreTold files source → (q : List ℕ) → is_within q pair.target ≡ false →
      is_target (pair ∷ []) (copied_of (side pair.source source) rows) q ≡ false
  no_target law rows files tree told q off =
      let l = side pair.source source in
      none_goes pair q (copied_of l rows)
      (of_kept (is_there l) (is_copied l rows) (IsTold files pair.source) (λ e. pointwise nat_eq q (target_of (pair ∷ []) e.path) ≡ false) source
      (λ e p t. off_path q (target_of (pair ∷ []) e.path) pair.target off
      (goes_in e.path (valid_of law files tree e (and_parts (is_some e.stat) _ p).0 t.stat) t.within))
      (all_told files pair.source source k.can.left told))

  -- the removal and the copy leave every path off the destination as it was
  pub outside_removed : (delete : Bool) (rows : List Row) (before after : Files) →
      SameButChosen (paths (chosen_of delete (side pair.source source) (side pair.target dest) rows)) before after → SameOutside pair.target before after
  outside_removed delete rows before after h q off = h q (not_chosen delete rows q off)

  pub outside_copied : NodesHavePaths → (delete : Bool) (rows : List Row) (before mid after : Files) → IsTree before → AreTold before source →
      SameButChosen (paths (chosen_of delete (side pair.source source) (side pair.target dest) rows)) before mid →
      SameButTargets (pair ∷ []) (copied_of (side pair.source source) rows) mid after → SameOutside pair.target before after
  outside_copied law delete rows before mid after tree told h g q off = g q (no_target law rows before tree told q off) ∙ h q (not_chosen delete rows q off)
