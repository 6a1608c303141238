use Rattle.compare_report.proofs.Prelude.{◌≡◌, true, All, IsStrictlySortedBy, path_cmp, is_shaped, paths, AreOutputs}
use Rattle.compare_report.proofs.selecting.outputs_of.Given as goal

-- the outputs of what was gone over
abbrev pub invariant-loop-want : goal.invariant-loop-want
invariant-loop-want l = record {
  are : AreOutputs l.yielded l.compared.rows l.sides.left_top l.sides.right_top l.sides.left l.sides.right l.outputs.items;
  ascend : All (λ o. IsStrictlySortedBy path_cmp (paths o.list)) l.outputs.items;
  shaped : All (λ o. All (λ e. is_shaped e ≡ true) o.list) l.outputs.items;
}
