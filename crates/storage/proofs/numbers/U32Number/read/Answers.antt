use Rattle.std.proofs.Common.{◌∙◌}
use Rattle.storage.proofs.Parted.{four_read}
use Rattle.storage.proofs.numbers.U32Number.read.Goals as goal

pub returns : goal.returns
returns c =
    c.from_be_bytes.ensures
    ∙ four_read c.args.storage.now c.args.at _ _ _ _ c.byte.ensures c.byte_after.ensures c.byte_after-2.ensures c.byte_after-3.ensures
