-- Which paths a stage may have changed.
use Rattle.stage_report.proofs.Prelude.{◌≡◌, ℕ, Bool, true, false, ◌||◌, List, [], ◌∷◌, ◌++◌, length, refl, ap, sym, subst, ◌∙◌, Option, Some, None, IfSome}
use Rattle.stage_report.proofs.Prelude.{nat_eq, Vec, Global, length-map, option_to_list, list_any, pointwise, false≢true, Files, Entry, StageAsked, Side}
use Rattle.stage_report.proofs.Prelude.{SameButAll, SameButOutputs, checkpoint_paths, LeavesStage, kept_paths}
use Rattle.std.proofs.Common.{is_some}
use Rattle.stage_report.proofs.Staged.{CutOff}

either : (a b c : Bool) → (c ≡ false → b ≡ false) → (a || c) ≡ false → (a || b) ≡ false
either true b c h off = absurd (false≢true (sym off))
either false b c h off = h off

-- what is none of more paths is none of these
front_off : (f : List ℕ → Bool) (ps qs : List (List ℕ)) → list_any f (ps ++ qs) ≡ false → list_any f ps ≡ false
front_off f [] qs off = refl
front_off f (p ∷ ps) qs off = either (f p) (list_any f ps) (list_any f (ps ++ qs)) (front_off f ps qs) off

itself : (paths : List (List ℕ)) (old : Option Files) → SameButOutputs paths old old
itself [] old = refl
itself (p ∷ ps) None = (refl, tt)
itself (p ∷ ps) (Some files) = (refl, λ q off. refl)

-- nothing
pub leaves_all : (paths : List (List ℕ)) (old new : Option Files) → new ≡ old → SameButOutputs paths old new
leaves_all paths old new same = subst (SameButOutputs paths old) (sym same) (itself paths old)

-- the file that was to be written at most
more : (p : List ℕ) (ps : List (List ℕ)) (old new : Option Files) → SameButOutputs (p ∷ []) old new → SameButOutputs (p ∷ ps) old new
more p ps None new s = (s.0, tt)
more p ps (Some files) None s = (s.0, tt)
more p ps (Some files) (Some tree) s = (s.0, λ q off. s.1 q (front_off (pointwise nat_eq q) (p ∷ []) ps off))

leaves_output : (output : Option (List ℕ)) (kept : List (List ℕ)) (old new : Option Files) → SameButOutputs (option_to_list output) old new →
    SameButOutputs (option_to_list output ++ kept) old new
leaves_output None kept old new s = leaves_all kept old new s
leaves_output (Some path) kept old new s = more path kept old new s

-- the files of a checkpoint at most
with_one : (p x : List ℕ) (xs : List (List ℕ)) (old new : Option Files) → SameButOutputs (x ∷ xs) old new → SameButOutputs (p ∷ x ∷ xs) old new
with_one p x xs None new s = (s.0, tt)
with_one p x xs (Some files) None s = (s.0, tt)
with_one p x xs (Some files) (Some tree) s = (s.0, λ q off. s.1 q (behind (pointwise nat_eq q p) (list_any (pointwise nat_eq q) (x ∷ xs)) off))
  where
    behind : (a b : Bool) → (a || b) ≡ false → b ≡ false
    behind true b off = absurd (false≢true (sym off))
    behind false b off = off

leaves_kept : (output : Option (List ℕ)) (most : ℕ) (dir : List ℕ) (ranks number : ℕ) (old new : Option Files) → number ≡ ranks →
    is_some new ≡ is_some old → IfSome old (λ files. IfSome new (SameButAll (checkpoint_paths dir number) files)) →
    SameButOutputs (option_to_list output ++ kept_paths (Some most) dir ranks) old new
leaves_kept output most dir ranks number old new is tells rest =
    by output (subst (λ n. SameButOutputs (checkpoint_paths dir n) old new) is (tells, rest))
  where
    by : (output : Option (List ℕ)) → SameButOutputs (checkpoint_paths dir ranks) old new →
        SameButOutputs (option_to_list output ++ checkpoint_paths dir ranks) old new
    by None s = s
    by (Some path) s = with_one path _ _ old new s

-- so a stage that was cut leaves all else
pub leaves_cut : (asked : StageAsked) (before walked : Side) (list : List Entry) (handled : ℕ) (strings : List (Vec (List ℕ) Global))
    (new : Option Files) → CutOff asked before walked list handled strings → is_some new ≡ is_some walked.tree →
    IfSome walked.tree (λ files. IfSome new (SameButAll (checkpoint_paths asked.lists (length strings)) files)) → LeavesStage asked before.tree new
leaves_cut asked before walked list handled strings new off tells rest =
    let dir = asked.lists in
    subst (λ s. SameButOutputs (option_to_list asked.output ++ kept_paths s dir asked.common.ranks) before.tree new) (sym off.cut.is_most)
    (leaves_kept asked.output off.cut.most dir asked.common.ranks (length strings) before.tree new
    (sym (length-map strings (λ strings. strings.items)) ∙ off.cut.ranks) (tells ∙ ap is_some off.same)
    (subst (λ t. IfSome t (λ files. IfSome new (SameButAll (checkpoint_paths dir (length strings)) files))) off.same rest))

-- and so does one that was finished
pub leaves_saved : (asked : StageAsked) (old between new : Option Files) → between ≡ old → SameButOutputs (option_to_list asked.output) between new →
    LeavesStage asked old new
leaves_saved asked old between new same rest =
    leaves_output asked.output (kept_paths asked.stop_after asked.lists asked.common.ranks) old new
    (subst (λ t. SameButOutputs (option_to_list asked.output) t new) same rest)
