use Rattle.std.proofs.Common.{◌≡◌, take}
use Rattle.listing.specs.Digests.{basis, digest_from}
use Rattle.listing.specs.Records.{records_bytes}
use Rattle.listing.proofs.records.digest_of_records.Given as goal

abbrev pub invariant-loop-of : goal.invariant-loop-of
invariant-loop-of l = l.digest ≡ digest_from basis (records_bytes (take l.of-index l.records))
