use Rattle.circle_run.proofs.Prelude.{false, sym, ◌∙◌, arith, get_or-take, length-take-le}
use Rattle.circle_run.proofs.hosts.all_set.Goals as goal

pub slice_bounds-are_set-end : goal.slice_bounds-are_set-end
slice_bounds-are_set-end c = sym (length-take-le c.args.ranks c.args.flags.now c.requires)

pub returns : goal.returns
returns c = λ all k below.
    let l = length-take-le c.args.ranks c.args.flags.now c.requires in
    sym (get_or-take c.args.ranks c.args.flags.now k false below) ∙ c.are_set.ensures all k (omega arith)
