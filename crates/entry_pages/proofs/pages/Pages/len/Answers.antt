use Rattle.entry_pages.proofs.Prelude.{◌∙◌, ap, length}
use Rattle.entry_pages.proofs.Inverse.{kept_many}
use Rattle.entry_pages.proofs.pages.Pages.len.Goals as goal

pub returns : goal.returns
returns c = c.len.ensures ∙ kept_many c.self.invariant ∙ ap length c.self.view_is
