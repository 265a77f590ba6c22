use Rattle.cases.proofs.Refuted.{losing_faults}
use Rattle.cases.proofs.losing_faults_are_refuted.Goals as goal

pub returns : goal.returns
returns c = losing_faults
