use Rattle.path_text.proofs.Prelude.{◌∙◌, sym, arith}
use Rattle.path_text.proofs.Compared.{path_cmp_past}
use Rattle.path_text.proofs.ordering.compare_bytes.Goals as goal

pub returns : goal.returns
returns c = c.cmp-2.ensures ∙ sym (path_cmp_past _ _ c.loop-i.i (omega arith)) ∙ sym c.loop-i.invariant
