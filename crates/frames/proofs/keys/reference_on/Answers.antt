use Rattle.frames.proofs.Bits.{reference_set}
use Rattle.frames.proofs.keys.reference_on.Goals as goal

pub returns : goal.returns
returns c = reference_set c.args.key
