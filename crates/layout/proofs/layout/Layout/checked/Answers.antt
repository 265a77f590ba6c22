use Rattle.layout.proofs.Made.{bounded}
use Rattle.layout.specs.Config.{config_with}
use Rattle.layout.proofs.layout.Layout.checked.Goals as goal

pub invariant_of-result : goal.invariant_of-result
invariant_of-result c =
    bounded (config_with c.args.sizes c.args.list.now) c.args.storage.now _ c.checked.result
    c.if-not-fit.ensures c.checked.ensures.answer c.in_ok-partitions.ensures.value
