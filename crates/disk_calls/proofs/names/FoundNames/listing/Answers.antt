use Rattle.disk_calls.proofs.Prelude.{◌∙◌, sym, subst, AreNames}
use Rattle.disk_calls.proofs.Ascending.{no_names}
use Rattle.disk_calls.proofs.names.FoundNames.listing.Goals as goal

pub loop-name-init : goal.loop-name-init
loop-name-init c =
    let path = c.args.path.now in
    subst (λ l. AreNames path l.0) (sym (c.reserve.ensures ∙ c.make-listing.ensures)) (no_names path)
