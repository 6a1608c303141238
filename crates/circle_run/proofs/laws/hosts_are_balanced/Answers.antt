use Rattle.circle_run.proofs.Apart.{balances}
use Rattle.circle_run.proofs.laws.hosts_are_balanced.Goals as goal

pub returns : goal.returns
returns c = λ o starts logs left batches some all. record { weighs = balances o starts logs left batches some all }
