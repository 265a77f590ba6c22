use Rattle.std.proofs.Common.{arith}
use Rattle.storage.proofs.Parted.{set_two}
use Rattle.storage.proofs.numbers.U16Number.write.Goals as goal

pub returns : goal.returns
returns c =
    set_two c.args.storage.now _ _ c.to_be_bytes.result c.args.at c.args.self (omega arith) c.to_be_bytes.ensures c.put_byte.ensures c.put_byte_after.ensures
