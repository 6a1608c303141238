use Rattle.path_looks.proofs.Told.{looks_without_faults_are_told}
use Rattle.path_looks.proofs.laws.looks_without_faults_are_told.Goals as goal

pub returns : goal.returns
returns c = looks_without_faults_are_told
