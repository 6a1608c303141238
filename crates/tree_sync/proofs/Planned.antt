-- A comparison and the choice by it are a plan.
use Rattle.tree_sync.proofs.Prelude.{◌≡◌, Bool, true, false, cond, ◌&&◌, List, [], map, length, filter, Option, refl, ap, ◌∙◌, Files, Entry, Findings}
use Rattle.tree_sync.proofs.Prelude.{IsComparison, side, Pair, Division, Plan, IsDivision, IsPlan, is_chosen_off, is_chosen, is_copied, is_kept, is_there}
use Rattle.tree_sync.proofs.Kept.{chosen_off}

-- the files that a comparison missed
pub record IsMissed (found : Findings) (plan : Plan) : Type 0 where
  pub failed : plan.failed.items ≡ map (λ m. m.path) found.failed
  pub changed : plan.changed.items ≡ map (λ m. m.path) found.changed

module _ (pair : Pair) (source dest : List Entry) (delete : Bool) (tree : Option Files) (found : Findings)
    (compared : IsComparison tree (side pair.source source) (side pair.target dest) found) (plan : Plan) (missed : IsMissed found plan) where
  -- without an entry of the source's top there is nothing to do
  pub empty_plan : false ≡ is_there (side pair.source source) → plan.kept ≡ 0 → plan.copied ≡ [] → plan.chosen ≡ [] →
      IsPlan pair source dest delete tree plan
  empty_plan away kept copied chosen =
      let l = side pair.source source in
      let r = side pair.target dest in
      record {
        found = found;
        compared = compared;
        kept = kept ∙ ap (λ b. length (cond b (filter (is_kept l found.rows) source) [])) away;
        copied = copied ∙ ap (λ b. cond b (filter (is_copied l found.rows) source) []) away;
        chosen = chosen ∙ ap (λ b. cond b (filter (is_chosen l r found.rows) dest) []) (and_none delete ∙ ap (λ x. delete && x) away);
        failed = missed.failed;
        changed = missed.changed;
      }
    where
      and_none : (d : Bool) → false ≡ (d && false)
      and_none true = refl
      and_none false = refl

  pub full_plan : true ≡ is_there (side pair.source source) → (division : Division) → IsDivision (side pair.source source) found.rows division →
      plan.kept ≡ division.kept → plan.copied ≡ division.copied →
      plan.chosen ≡ cond delete (filter (is_chosen_off division.masks.items (side pair.target dest) found.rows) dest) [] →
      IsPlan pair source dest delete tree plan
  full_plan there division d kept copied chosen =
      let l = side pair.source source in
      let r = side pair.target dest in
      record {
        found = found;
        compared = compared;
        kept = kept ∙ d.kept ∙ ap (λ b. length (cond b (filter (is_kept l found.rows) source) [])) there;
        copied = copied ∙ d.copied ∙ ap (λ b. cond b (filter (is_copied l found.rows) source) []) there;
        chosen = chosen ∙ ap (λ ms. cond delete (filter (is_chosen_off ms r found.rows) dest) []) d.masks
            ∙ ap (λ es. cond delete es []) (chosen_off l r found.rows dest) ∙ one delete (is_there l) there;
        failed = missed.failed;
        changed = missed.changed;
      }
    where
      one : (d t : Bool) → true ≡ t → cond d (filter (is_chosen (side pair.source source) (side pair.target dest) found.rows) dest) [] ≡
          cond (d && t) (filter (is_chosen (side pair.source source) (side pair.target dest) found.rows) dest) []
      one d t e = ap (λ b. cond b (filter (is_chosen (side pair.source source) (side pair.target dest) found.rows) dest) []) (and_one d ∙ ap (λ x. d && x) e)
        where
          and_one : (d : Bool) → d ≡ (d && true)
          and_one true = refl
          and_one false = refl
