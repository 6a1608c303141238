-- What the walks of a pair that was placed give: lists that can be synced.
use Rattle.sync_report.proofs.Prelude.{◌≡◌, ℕ, true, false, cond, List, [], ◌∷◌, length, Option, Some, None, IfSome, refl, ap, ◌∙◌, subst, arith, append-nil}
use Rattle.sync_report.proofs.Prelude.{All-from_recursion, sum_by-cons, is_some, or_left, get, Contains, flat_map, refusal, Files, IsTree, NodesHavePaths}
use Rattle.sync_report.proofs.Prelude.{Entry, bit, IsSide, side, Pair, in_itself, IsRoots, RootsAreUnique, is_in, is_in_some, EntriesAreTold}
use Rattle.sync_report.proofs.Prelude.{EntriesHaveParents, WalkListsAll, answers_in, walk, Side, side_with, AreSides, WalksBoth, Walked, Sides, CanSync}
use Rattle.sync_report.proofs.Prelude.{FitsSync, IsPlaced, IsReady, not_none}
use Rattle.sync_report.specs.PrivateSteps.{AreWhole}
use Rattle.std.specs.List.Sorted.{IsStrictlySortedBy}
use Rattle.sync_report.proofs.Below.{apart, not_root}
use Rattle.sync_report.proofs.Walked.{IsWalk, all_tell, are_told, have_parents, whole}

-- ---- a path is the root of itself

pub own_root : (top : List ℕ) → IsRoots (top ∷ []) (top ∷ [])
unfolding IsStrictlySortedBy
own_root top = record {
  among = All-from_recursion (Contains (top ∷ [])) (top ∷ []) ((0, omega arith, refl), tt);
  ascend = (tt, tt);
  apart = λ x. omega (arith, sum_by-cons (λ r. cond (is_in x r) 1 0) top [], bit (is_in x top));
  cover = All-from_recursion (λ path. is_in_some (top ∷ []) path ≡ true) (top ∷ []) (or_left (is_in top top) false (in_itself top), tt);
}

-- ---- what was walked is a walk

pub record Laws : Type 0 where
  pub tells : EntriesAreTold
  pub parents : EntriesHaveParents
  pub lists : WalkListsAll
  pub unique : RootsAreUnique
  pub paths : NodesHavePaths

pub one_root : RootsAreUnique → (top : List ℕ) (list : List Entry) (before after : Side) → refusal top ≡ None →
    (w : Walked (top ∷ []) list before after) → w.roots ≡ top ∷ []
one_root unique top list before after v w =
    unique (top ∷ []) w.roots (top ∷ []) (All-from_recursion (λ path. refusal path ≡ None) (top ∷ []) (v, tt)) w.are (own_root top)

pub from_top : RootsAreUnique → (top : List ℕ) (list : List Entry) (files : Files) (n : ℕ) (after : Side) → refusal top ≡ None →
    Walked (top ∷ []) list (side_with (Some files) n) after → (list ≡ walk files (answers_in list) top) × IsTree files
from_top unique top list files n after v w =
    let same = one_root unique top list (side_with (Some files) n) after v w in (
      w.told ∙ ap (flat_map (walk files (answers_in list))) same ∙ append-nil (walk files (answers_in list) top),
      w.valid (omega (arith, ap length same)),
    )

-- ---- both of them

module _ (laws : Laws) (pair : Pair) (sides : Sides) where
  -- both lists are walks of one tree
  record AreBoth (files : Files) : Type 0 where
    source : IsWalk files (answers_in sides.left) pair.source sides.left
    dest : IsWalk files (answers_in sides.right) pair.target sides.right

  walks : (tree : Option Files) (n : ℕ) (after : Side) → IsPlaced pair tree → CanSync pair sides.left sides.right →
      WalksBoth pair.source pair.target sides.left sides.right (side_with tree n) after → IfSome tree AreBoth
  walks None n after p can w = tt
  walks (Some files) n after p can w =
      let off = apart pair.source pair.target p.apart in
      let source = from_top laws.unique pair.source sides.left files n (side_with (Some files) w.between) p.from w.source in
      let dest = from_top laws.unique pair.target sides.right files w.between after p.to w.destination in
      record {
        source = record {
          tree = source.1;
          valid = p.from;
          low = not_root pair.target pair.source p.to off.second;
          is = source.0;
          is_side = can.left;
        };
        dest = record { tree = dest.1; valid = p.to; low = not_root pair.source pair.target p.from off.first; is = dest.0; is_side = can.right };
      }

  fits : (tree : Option Files) → IsPlaced pair tree → IfSome tree AreBoth → IfSome tree (FitsSync pair sides.left sides.right)
  fits None p w = tt
  fits (Some files) p w = record {
    left = are_told files (answers_in sides.left) sides.left (all_tell laws.tells files (answers_in sides.left) pair.source sides.left w.source);
    right = are_told files (answers_in sides.right) sides.right (all_tell laws.tells files (answers_in sides.right) pair.target sides.right w.dest);
    parents = have_parents laws.parents files (answers_in sides.left) pair.source sides.left w.source;
    stand = p.stand;
  }

  are_whole : (tree : Option Files) → IfSome tree AreBoth → IfSome tree (AreWhole pair sides.left sides.right)
  are_whole None w = tt
  are_whole (Some files) w =
      let paths_are = λ (q : List ℕ) (some : is_some (get files q) ≡ true). laws.paths files q w.source.tree (not_none (get files q) some) in
      record {
        tree = w.source.tree;
        left = whole laws.tells laws.lists files pair.source sides.left w.source paths_are;
        right = whole laws.tells laws.lists files pair.target sides.right w.dest paths_are;
      }

  pub ready : (tree : Option Files) (n : ℕ) (after : Side) → IsPlaced pair tree → AreSides tree sides →
      (sides.left_top ≡ pair.source) × (sides.right_top ≡ pair.target) →
      WalksBoth pair.source pair.target sides.left sides.right (side_with tree n) after → IsReady pair sides.left sides.right tree
  ready tree n after p are tops w =
      let can : CanSync pair sides.left sides.right = record {
        left = subst (λ t. IsSide (side t sides.left)) tops.0 are.left;
        right = subst (λ t. IsSide (side t sides.right)) tops.1 are.right;
        apart = p.apart;
      } in
      let both = walks tree n after p can w in
      record {
        from = p.from;
        to = p.to;
        can = can;
        fits = fits tree p both;
        whole = are_whole tree both;
        source_shaped = are.left_shaped;
        dest_shaped = are.right_shaped;
      }
