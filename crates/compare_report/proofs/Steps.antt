-- What the steps of dcmp told, as its own words say it.
use Rattle.compare_report.proofs.Prelude.{◌≡◌, ℕ, ◌≤◌, List, [], ◌∷◌, map, Option, Some, None, IfSome, length, refl, ap, sym, subst, inr, is_some, RoseBy}
use Rattle.compare_report.proofs.Prelude.{Files, Entry, Row, Findings, IsComparison, side, Want, CompareAsked, Stop, Side, side_with, Sides, Output, WalksBoth}
use Rattle.compare_report.proofs.Prelude.{SameButAll, SameButOutputs, StopsSaving, Prepared, Compares, LeavesCompare, StopsCompare, AreOutputs, IsPrepared}

-- both sides were walked, and then compared
pub record Steps (asked : CompareAsked) (sides : Sides) (found : Findings) (before walked compared : Side) : Type 0 where
  pub left_top : sides.left_top ≡ asked.left
  pub right_top : sides.right_top ≡ asked.right
  pub walks : WalksBoth asked.left asked.right sides.left sides.right before walked
  pub same : walked.tree ≡ before.tree
  pub compares : IsComparison walked.tree (side sides.left_top sides.left) (side sides.right_top sides.right) found
  pub counted : RoseBy (length found.failed) walked.count compared.count

pub compares_by : (asked : CompareAsked) (sides : Sides) (found : Findings) (before walked compared : Side) → Steps asked sides found before walked compared →
    Compares asked sides.left sides.right found before (side_with before.tree compared.count)
compares_by asked sides found before walked compared s = record {
  walked = walked.count;
  walks = subst (λ t. WalksBoth asked.left asked.right sides.left sides.right before (side_with t walked.count)) s.same s.walks;
  compared =
      subst (λ t. IsComparison t (side asked.left sides.left) (side asked.right sides.right) found) s.same
      (subst (λ p. IsComparison walked.tree (side p sides.left) (side asked.right sides.right) found) s.left_top
      (subst (λ q. IsComparison walked.tree (side sides.left_top sides.left) (side q sides.right) found) s.right_top s.compares));
  counted = s.counted;
}

pub outputs_by : (asked : CompareAsked) (sides : Sides) (found : Findings) (outputs : List Output) (before walked compared : Side) →
    Steps asked sides found before walked compared →
    AreOutputs asked.wants found.rows sides.left_top sides.right_top sides.left sides.right outputs →
    AreOutputs asked.wants found.rows asked.left asked.right sides.left sides.right outputs
outputs_by asked sides found outputs before walked compared s are =
    subst (λ p. AreOutputs asked.wants found.rows p asked.right sides.left sides.right outputs) s.left_top
    (subst (λ q. AreOutputs asked.wants found.rows sides.left_top q sides.left sides.right outputs) s.right_top are)

-- ---- what is left

-- where the tree is as before, so is all that may not change
pub same_leaves : (paths : List (List ℕ)) (old new : Option Files) → new ≡ old → SameButOutputs paths old new
same_leaves [] old new same = same
same_leaves (path ∷ paths) None new same = (ap is_some same, tt)
same_leaves (path ∷ paths) (Some files) new same = (ap is_some same, subst (λ t. IfSome t (SameButAll (path ∷ paths) files)) (sym same) (λ q off. refl))

-- the outputs are at the files that were wanted
files_of : (wants : List Want) (rows : List Row) (left_top right_top : List ℕ) (left right : List Entry) (outputs : List Output) →
    AreOutputs wants rows left_top right_top left right outputs → map (λ (o : Output). o.path) outputs ≡ map (λ (want : Want). want.file) wants
files_of [] rows left_top right_top left right [] are = refl
files_of [] rows left_top right_top left right (output ∷ outputs) are = absurd are
files_of (want ∷ wants) rows left_top right_top left right [] are = absurd are
files_of (want ∷ wants) rows left_top right_top left right (output ∷ outputs) are =
    λ i. are.0.0 i ∷ files_of wants rows left_top right_top left right outputs are.1 i

-- so whatever was saved of them, all else is as before
pub leaves_saved : (asked : CompareAsked) (before between : Side) (new : Option Files) (ready : Prepared) (outputs : List Output) →
    IsPrepared asked before between ready → between.tree ≡ before.tree → outputs ≡ ready.outputs.items →
    SameButOutputs (map (λ (o : Output). o.path) outputs) between.tree new → LeavesCompare asked before.tree new
leaves_saved asked before between new ready outputs p same are rest =
    subst (λ ps. SameButOutputs ps before.tree new) (files_of asked.wants p.found.rows asked.left asked.right p.left p.right ready.outputs.items p.are)
    (subst (λ t. SameButOutputs (map (λ (o : Output). o.path) ready.outputs.items) t new) same
    (subst (λ (os : List Output). SameButOutputs (map (λ (o : Output). o.path) os) between.tree new) are rest))

-- ---- a list that was not saved

pub stops_saving : (asked : CompareAsked) (before between after : Side) (ready : Prepared) (why : Stop) → IsPrepared asked before between ready →
    between.tree ≡ before.tree → between.count ≤ after.count → StopsSaving ready.outputs.items between after why → StopsCompare asked before after why
stops_saving asked before between after ready why p same later stops =
    inr (inr (record {
      left = p.left;
      right = p.right;
      found = p.found;
      compared = between.count;
      compares = p.compares;
      outputs = ready.outputs.items;
      are = p.are;
      later = later;
      stops = subst (λ t. StopsSaving ready.outputs.items (side_with t between.count) after why) same stops;
    }))
