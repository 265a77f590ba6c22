use Rattle.std.proofs.Common.{rules}
use Rattle.listing.specs.Digests.{digest_text}
use Rattle.listing.proofs.digest.digest_text.Goals as goal

pub returns : goal.returns
unfolding digest_text
returns c = search rules
