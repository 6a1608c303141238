use Rattle.flat_list.proofs.Prelude.{◌++◌, subst, List, IsPermutation, Entry, all_of}
use Rattle.flat_list.proofs.Merged.{log_more}
use Rattle.flat_list.proofs.runs.cut_each.Goals as goal

pub loop-log-preserved : goal.loop-log-preserved
loop-log-preserved c =
    let read = subst (λ (log : List Entry). IsPermutation (all_of c.loop-log.cut ++ log) (all_of c.take_all.new.self))
    c.deref.ensures.value c.in_ok-take_all.ensures in
    log_more (λ log. log.items) c.loop-log.yielded c.in-Some.log _ _ c.loop-log.invariant read
