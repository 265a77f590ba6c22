use Rattle.frames.proofs.Bits.{reference_masked}
use Rattle.frames.proofs.keys.is_referred.Goals as goal

pub returns : goal.returns
returns c = reference_masked c.args.key
