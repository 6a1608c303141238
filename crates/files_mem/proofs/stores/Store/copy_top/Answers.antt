use Rattle.files_mem.proofs.Prelude.{rules, ap, ◌∙◌, length, get}
use Rattle.files_mem.proofs.Copied.{copying_begins, copying_step, copying_off, copying_stops, copying_done, copying_lost, after_put}
use Rattle.files_mem.proofs.stores.Store.copy_top.Goals as goal

pub loop-key-init : goal.loop-key-init
loop-key-init c = copying_begins c.args.top.now c.self.inside.map.entries _ c.args.self.now c.args.into.now c.self.view_is
    c.from-entries.ensures.ordered c.self.invariant c.from-entries.ensures.rest

pub returns-then-not-is_within-clause-ok : goal.returns-then-not-is_within-clause-ok
returns-then-not-is_within-clause-ok c = copying_stops _ _ _ _ _ _ _ _ c.text.ensures.valid c.loop-key.invariant c.in-Some.ensures.steps (search rules)

pub returns-in_err-copy-clause-err : goal.returns-in_err-copy-clause-err
returns-in_err-copy-clause-err c = copying_lost c.from_residual.result _ (copying_off _ _ _ _ _ c.loop-key.invariant)

pub returns-in_err-clone-clause-err : goal.returns-in_err-clone-clause-err
returns-in_err-clone-clause-err c = copying_lost c.from_residual-in_err-clone.result _ (copying_off _ _ _ _ _ c.loop-key.invariant)

pub loop-key-preserved : goal.loop-key-preserved
loop-key-preserved c = copying_step _ _ _ _ c.in-Some.key.now c.in-Some.node.now c.in_ok-clone.field-0 _ _ _ c.loop-key.invariant
    c.in-Some.ensures.steps (search rules) c.in_ok-clone.ensures.cases (after_put _ _ _ _ _ c.in_ok-put.ensures.ok c.in_ok-copy.ensures)

pub returns-in_err-put-clause-err : goal.returns-in_err-put-clause-err
returns-in_err-put-clause-err c =
    copying_lost c.from_residual-in_err-put.result _
    (λ q off. ap (λ f. get f q) c.in_err-put.ensures.err ∙ copying_off _ _ _ _ _ c.loop-key.invariant q off)

pub returns-clause-ok : goal.returns-clause-ok
returns-clause-ok c = copying_done _ _ _ _ _ c.loop-key.invariant (ap length c.in_default.ensures.steps.0)
