use Rattle.entry_pages.proofs.Prelude.{ap, length, arith}
use Rattle.entry_pages.proofs.Slimmed.{slim_long}
use Rattle.entry_pages.proofs.heads.Heads.len.Goals as goal

pub returns : goal.returns
returns c = omega (arith, c.len.ensures, slim_long c.self.invariant, ap length c.self.view_is, c.self.inside.slims.ok.0)
