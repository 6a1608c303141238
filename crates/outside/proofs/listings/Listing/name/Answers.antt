use Rattle.outside.proofs.Prelude.{ap}
use Rattle.outside.proofs.Ends.{has_end}
use Rattle.outside.proofs.listings.Listing.name.Goals as goal

pub name_at-requires-clause-within : goal.name_at-requires-clause-within
name_at-requires-clause-within c = rw c.deref-2.ensures.value (has_end _ _ c.args.self.now _ (ap (λ v. v.0) c.self.view_is) c.requires)

pub name_at-requires-clause-ends : goal.name_at-requires-clause-ends
name_at-requires-clause-ends c = rw (c.deref.ensures, c.deref-2.ensures.value) c.self.invariant

pub returns : goal.returns
returns c = rw (← c.self.view_is, ← c.deref.ensures, ← c.deref-2.ensures.value) c.name_at.ensures
