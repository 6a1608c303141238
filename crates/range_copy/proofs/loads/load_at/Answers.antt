use Rattle.range_copy.proofs.Prelude.{arith, ap, ◌+◌, ◌-◌, ◌≡◌, Some, ◌∙◌, slice_get-get_or}
use Rattle.std.proofs.Common.{slice_index_or}
use Rattle.range_copy.proofs.Loaded.{side_by_side}
use Rattle.range_copy.proofs.loads.load_at.Goals as goal

pub overflow_sub-result : goal.overflow_sub-result
overflow_sub-result g c =
    (side_by_side c.args.cuts.now c.args.k _ _ c.requires.cuts (slice_get-get_or c.args.cuts.now c.args.k 0 (omega (arith, c.requires.inside)))
    (slice_get-get_or c.args.cuts.now (c.args.k + 1) 0 c.requires.inside)).up

pub returns-clause-start : goal.returns-clause-start
returns-clause-start g c = slice_get-get_or c.args.cuts.now c.args.k 0 (omega (arith, c.requires.inside))

pub returns-clause-end : goal.returns-clause-end
returns-clause-end g c =
    let a = slice_index_or c.args.cuts.now c.args.k 0 in
    let b = slice_index_or c.args.cuts.now (c.args.k + 1) 0 in
    let up = (side_by_side c.args.cuts.now c.args.k a b c.requires.cuts (slice_get-get_or c.args.cuts.now c.args.k 0 (omega (arith, c.requires.inside)))
    (slice_get-get_or c.args.cuts.now (c.args.k + 1) 0 c.requires.inside)).up in
    let whole : b ≡ a + (b - a) = omega (arith, up) in
    slice_get-get_or c.args.cuts.now (c.args.k + 1) 0 c.requires.inside ∙ ap (λ n. Some n) whole
