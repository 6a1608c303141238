use Rattle.outside.proofs.Prelude.{◌∙◌, sym}
use Rattle.outside.proofs.Told.{over_stops, place_stops}
use Rattle.outside.proofs.saving.look.Goals as goal

pub returns-in-Ok-clause-stopped : goal.returns-in-Ok-clause-stopped
returns-in-Ok-clause-stopped g c = place_stops _ _ _ _ _ _ _ c.by_place.ensures c.stat-in-Ok.ensures.given

pub returns-in-Err-clause-stopped : goal.returns-in-Err-clause-stopped
returns-in-Err-clause-stopped g c = over_stops _ _ _ _ _ _ _ (sym c.by_over.ensures ∙ c.in-Err.is) c.stat.ensures.given
