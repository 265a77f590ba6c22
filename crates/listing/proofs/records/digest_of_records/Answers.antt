use Rattle.std.proofs.Common.{◌∙◌}
use Rattle.listing.proofs.Joined.{records-none, records-more, records-all}
use Rattle.listing.proofs.records.digest_of_records.Goals as goal

pub loop-of-init : goal.loop-of-init
loop-of-init c = records-none c.args.records.now _ c.new-digest.ensures

pub loop-of-preserved : goal.loop-of-preserved
loop-of-preserved c =
    records-more c.args.records.now _ _ _ _ _ c.loop-of-test.true c.record_bytes.ensures c.loop-of.invariant c.add.ensures

pub returns : goal.returns
returns c = c.number.ensures ∙ records-all c.args.records.now _ _ c.loop-of-test.false c.loop-of.invariant
