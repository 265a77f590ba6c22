use Rattle.frames.proofs.Bits.{change_masked}
use Rattle.frames.proofs.keys.is_changed.Goals as goal

pub returns : goal.returns
returns c = change_masked c.args.key
