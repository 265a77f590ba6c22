use Rattle.cases.proofs.Computed.{cases}
use Rattle.cases.proofs.cases_stand.Goals as goal

pub returns : goal.returns
returns c = cases
