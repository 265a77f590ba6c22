use Rattle.std.proofs.Common.{arith}
use Rattle.machine.proofs.Bits.{change_cleared}
use Rattle.machine.proofs.frame.change_off.Goals as goal

pub returns : goal.returns
returns c = change_cleared c.args.key (omega arith)
