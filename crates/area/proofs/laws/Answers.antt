use Rattle.area.specs.Slots.{touches}
use Rattle.area.proofs.laws.Goals as goal

pub returns-clause-laws : goal.returns-clause-laws
returns-clause-laws c = record { touches = touches }
