use Rattle.find_tests.proofs.ByCases.{glob_by_cases}
use Rattle.find_tests.proofs.laws.glob_by_cases.Goals as goal

pub returns : goal.returns
returns c = glob_by_cases
