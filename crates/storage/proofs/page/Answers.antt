use Rattle.storage.specs.Bytes.{page}
use Rattle.storage.proofs.page.Goals as goal

pub returns : goal.returns
unfolding page
returns c = c.bytes.ensures
