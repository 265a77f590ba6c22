use Rattle.std.proofs.Common.{refl}
use Rattle.storage.specs.Over.{laws, elsewhere}
use Rattle.storage.proofs.laws.Goals as goal

pub returns : goal.returns
returns c = record { page_size = refl; laws = laws; elsewhere = elsewhere }
