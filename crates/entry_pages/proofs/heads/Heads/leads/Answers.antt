use Rattle.entry_pages.proofs.Slimmed.{lead_first, lead_same}
use Rattle.entry_pages.proofs.heads.Heads.leads.Goals as goal

pub invariant_of-result : goal.invariant_of-result
invariant_of-result c = lead_same c.as_slice.ensures.value c.as_slice-2.ensures.value c.as_slice-3.ensures.value (lead_first c.self.invariant)
