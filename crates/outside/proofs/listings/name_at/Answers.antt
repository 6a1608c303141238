use Rattle.outside.proofs.Ends.{cut_at, name_is}
use Rattle.outside.proofs.listings.name_at.Goals as goal

pub range-requires-clause-start_le_end : goal.range-requires-clause-start_le_end
range-requires-clause-start_le_end c = rw (c.start_of.ensures) (cut_at _ _ _ c.requires.ends c.requires.within).ascend

pub range-requires-clause-start_boundary : goal.range-requires-clause-start_boundary
range-requires-clause-start_boundary c = rw (c.start_of.ensures) (cut_at _ _ _ c.requires.ends c.requires.within).first

pub range-requires-clause-end_boundary : goal.range-requires-clause-end_boundary
range-requires-clause-end_boundary c = (cut_at _ _ _ c.requires.ends c.requires.within).last

pub returns : goal.returns
returns c = rw (c.range.ensures.value, c.start_of.ensures) (name_is 0 _ _ _ c.requires.within)
