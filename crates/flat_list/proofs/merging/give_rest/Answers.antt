use Rattle.flat_list.proofs.Prelude.{◌++◌, ◌∙◌, ap, sym, List, append_assoc, Entry}
use Rattle.flat_list.proofs.Merged.{flat, flat_more}
use Rattle.flat_list.proofs.merging.give_rest.Goals as goal

pub loop-source-preserved : goal.loop-source-preserved
loop-source-preserved c =
    let all = c.args.all.now in
    let before = c.loop-source.yielded in
    let source = c.in-Some.source in
    c.in_ok-give_all.ensures ∙ ap (λ (x : List Entry). x ++ source) c.loop-source.invariant ∙ append_assoc all (flat before) source
    ∙ ap (λ (x : List Entry). all ++ x) (sym (flat_more before source))
