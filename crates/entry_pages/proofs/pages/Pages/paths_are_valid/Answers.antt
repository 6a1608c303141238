use Rattle.entry_pages.proofs.Prelude.{◌≡◌, subst, All, refusal, Entry}
use Rattle.std.proofs.Common.{None}
use Rattle.entry_pages.proofs.Passed.{all_valid}
use Rattle.entry_pages.proofs.pages.Pages.paths_are_valid.Goals as goal

pub returns : goal.returns
returns c = subst (All (λ (e : Entry). refusal e.path ≡ None)) c.self.view_is (all_valid _ c.self.invariant.paths)
