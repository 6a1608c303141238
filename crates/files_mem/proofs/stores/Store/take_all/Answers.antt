use Rattle.files_mem.proofs.Prelude.{sym, ap, ◌∙◌, cond, is_some, None, length, get}
use Rattle.files_mem.proofs.Copied.{gone, gone_is, gone_step, gone_end}
use Rattle.files_mem.proofs.stores.Store.take_all.Goals as goal

pub loop-key-init : goal.loop-key-init
loop-key-init c = λ q. ap (λ es. gone es q (get c.args.self.now q)) c.iter-entries.ensures.rest
    ∙ gone_is c.other.inside.map.entries q (get c.args.self.now q)
    ∙ ap (λ f. cond (is_some (get f q)) None (get c.args.self.now q)) c.other.view_is

pub loop-key-preserved : goal.loop-key-preserved
loop-key-preserved c = λ q.
    gone_step c.loop-key.entries c.next.new.self c.in-Some.key.now c.in-Some._node.now c.loop-key.self c.take.new.self q
    c.in-Some.ensures.steps c.take.ensures ∙ c.loop-key.invariant q

pub returns : goal.returns
returns c = λ q. sym (gone_end c.loop-key.entries q (get c.loop-key.self q) (ap length c.in_default.ensures.steps.0)) ∙ c.loop-key.invariant q
