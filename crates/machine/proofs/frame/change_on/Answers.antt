use Rattle.machine.proofs.Bits.{change_set}
use Rattle.machine.proofs.frame.change_on.Goals as goal

pub returns : goal.returns
returns c = change_set c.args.key
