use Rattle.dataset.specs.Formed.{formed_data_set, data_set_formed}
use Rattle.dataset.specs.Slots.{touches}
use Rattle.dataset.proofs.data_set.laws.Goals as goal

pub returns-clause-laws : goal.returns-clause-laws
returns-clause-laws c = record { accepts = formed_data_set; refuses = data_set_formed; touches = touches }
