use Rattle.entry_pages.proofs.passing.Reader.make.Goals as goal

pub invariant_of-result : goal.invariant_of-result
invariant_of-result c = c.requires c.in_ok-entry.entry.path
