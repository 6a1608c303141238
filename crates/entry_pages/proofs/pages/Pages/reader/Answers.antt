use Rattle.entry_pages.proofs.Passed.{before_first, before_pair}
use Rattle.entry_pages.proofs.pages.Pages.reader.Goals as goal

pub make-requires : goal.make-requires
make-requires c = before_pair c.leads.result c.deref.result.now c.leads.ensures c.deref.ensures.value (before_first c.self.invariant)
