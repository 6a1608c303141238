use Rattle.outside.proofs.Prelude.{arith}
use Rattle.outside.proofs.Ends.{names_len}
use Rattle.outside.proofs.listings.Listing.len.Goals as goal

pub returns : goal.returns
returns c = grind (arith, names_len, c.self.view_is)
