use Rattle.std.proofs.Common.{arith}
use Rattle.frames.proofs.Bits.{reference_cleared}
use Rattle.frames.proofs.keys.reference_off.Goals as goal

pub returns : goal.returns
returns c = reference_cleared c.args.key (omega arith)
