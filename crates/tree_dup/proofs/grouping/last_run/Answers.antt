use Rattle.tree_dup.proofs.Prelude.{arith, ◌-◌, length, sym, ◌∙◌}
use Rattle.tree_dup.proofs.Ran.{last_run, last_run_whole, only_last}
use Rattle.tree_dup.proofs.grouping.last_run.Goals as goal

pub loop-start-init : goal.loop-start-init
loop-start-init c = record { up_to = omega arith; run = only_last c.args.files.now (length c.args.files.now - 1) (omega arith) }

pub returns-then-not-same_content : goal.returns-then-not-same_content
returns-then-not-same_content c =
    last_run c.args.files.now c.loop-start.start (length c.args.files.now - 1) c.index-files-start.result c.index-files-last.result c.requires.sorted
    (omega arith)
    c.loop-start.invariant.up_to c.loop-start.invariant.run
    (λ later. (c.index-files-start.is, c.index-files-last.is, sym c.same_content.ensures ∙ c.if-not-same_content.true))

pub returns : goal.returns
returns c = last_run_whole c.args.files.now c.loop-start.start c.requires.some c.requires.sorted (omega arith) c.loop-start.invariant.run
