use Rattle.entry_pages.proofs.Prelude.{ap, ◌∙◌, subst, IsUtf8, is_text}
use Rattle.entry_pages.proofs.Slimmed.{text_is}
use Rattle.entry_pages.proofs.slims.text_len.Goals as goal

pub returns-in-Some-clause-valid : goal.returns-in-Some-clause-valid
returns-in-Some-clause-valid c =
    ap is_text c.in-Some.is ∙ text_is c.in-Some.target c.text.ensures.valid (subst IsUtf8 c.text.ensures.text c.text.utf8)
