use Rattle.cases.proofs.Governed.{governed}
use Rattle.cases.proofs.laws_apply.Goals as goal

pub returns : goal.returns
returns c = governed
