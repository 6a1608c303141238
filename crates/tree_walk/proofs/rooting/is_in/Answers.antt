use Rattle.tree_walk.proofs.Prelude.{◌∙◌, sym}
use Rattle.tree_walk.proofs.InBytes.{AreBytes, in_as_same, in_as_under, in_as_other}
use Rattle.tree_walk.proofs.rooting.is_in.Goals as goal
use Rattle.tree_walk.proofs.rooting.is_in.Goals.{After-starts_with}

-- the bytes are those of the two paths
are_bytes : (c : After-starts_with) → AreBytes c.args.x.now c.args.p.now c.as_bytes-x.result.now c.as_bytes-p.result.now
are_bytes c = record {
  first = c.as_bytes-x.ensures.value ∙ c.text.ensures.text;
  second = c.as_bytes-p.ensures.value ∙ c.text-2.ensures.text;
  valid = c.text-2.ensures.valid;
  long = c.if-p-eq1.false;
}

pub returns-then-x-p : goal.returns-then-x-p
returns-then-x-p c =
    in_as_same _ _ _ _ (are_bytes (goal.at.returns-then-x-p c).After-starts_with) (sym c.starts_with.ensures.value ∙ c.if-starts_with.true) c.if-x-p.true

pub returns-else-x-p : goal.returns-else-x-p
returns-else-x-p c =
    in_as_under _ _ _ _ (are_bytes (goal.at.returns-else-x-p c).After-starts_with) (sym c.starts_with.ensures.value ∙ c.if-starts_with.true) c.if-x-p.false

pub returns-else-starts_with : goal.returns-else-starts_with
returns-else-starts_with c = c.if-starts_with.false
    ∙ in_as_other _ _ _ _ (are_bytes (goal.at.returns-else-starts_with c).After-starts_with) (sym c.starts_with.ensures.value ∙ c.if-starts_with.false)
