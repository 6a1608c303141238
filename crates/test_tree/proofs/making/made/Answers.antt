use Rattle.test_tree.proofs.Prelude.{◌≡◌, ◌∙◌, sym, ap, arith, memory_of, first_files}
use Rattle.test_tree.proofs.Filled.{first_none, first_all}
use Rattle.test_tree.proofs.making.made.Goals as goal

pub loop-k-init : goal.loop-k-init
loop-k-init c = (
  c.in_ok-files.ensures ∙ ap memory_of (sym (first_none c.args.nodes)),
  c.in_ok-place.ensures,
)

pub returns : goal.returns
returns c =
    let end : c.loop-k.k ≡ c.args.nodes = omega arith in
    c.loop-k.invariant.0
    ∙ ap memory_of (ap (first_files c.args.nodes) end ∙ first_all c.args.nodes)
