use Rattle.entry_pages.proofs.Prelude.{arith, ap, length, rules}
use Rattle.entry_pages.proofs.Slimmed.{lead_at, lead_same}
use Rattle.entry_pages.proofs.heads.Heads.leads_at.Goals as goal

pub invariant_of-result : goal.invariant_of-result
invariant_of-result c = lead_same c.as_slice.ensures.value c.as_slice-2.ensures.value c.as_slice-3.ensures.value
    (lead_at c.args.page c.index.result.now c.index-2.result.now c.self.invariant
    (omega (arith, c.requires, ap length c.self.view_is)) (search rules) (search rules))
