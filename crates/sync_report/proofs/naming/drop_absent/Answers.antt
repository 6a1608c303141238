use Rattle.sync_report.proofs.Prelude.{rules, filter_same}
use Rattle.sync_report.proofs.naming.drop_absent.Goals as goal

pub returns : goal.returns
returns c = filter_same _ _ _ (λ x b f' k. search rules) _ _ c.retain.ensures.filtered
