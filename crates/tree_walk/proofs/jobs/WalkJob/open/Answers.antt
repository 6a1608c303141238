use Rattle.tree_walk.proofs.Prelude.{ap, ◌∙◌, sym, entries_of}
use Rattle.tree_walk.proofs.Held.{entries_held}
use Rattle.tree_walk.proofs.jobs.WalkJob.open.Goals as goal

pub returns-clause-entries : goal.returns-clause-entries
returns-clause-entries g c = sym (ap (λ v. entries_of v.1) (sym c.self.view_is) ∙ entries_held c.self.inside.entries c.self.inside.names.items)
