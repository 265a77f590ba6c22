use Rattle.std.proofs.Common.{◌∙◌}
use Rattle.storage.proofs.Parted.{two}
use Rattle.storage.proofs.numbers.U16Number.read.Goals as goal

pub returns : goal.returns
returns c = c.from_be_bytes.ensures ∙ two c.args.storage.now c.args.at _ _ c.byte.ensures c.byte_after.ensures
