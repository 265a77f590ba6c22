use Rattle.std.proofs.Common.{◌∙◌}
use Rattle.listing.proofs.Listed.{listed-none, shown, listed-more, listed-all}
use Rattle.listing.proofs.lines.listed.Goals as goal

pub loop-item-init : goal.loop-item-init
loop-item-init g c text output = listed-none text _ _ c.args.items.now c.in_ok-line.ensures.ok

pub loop-item-preserved : goal.loop-item-preserved
loop-item-preserved g c text output =
    let piece = shown g.D.Display.output text c.item-item.result _ (output c.item-item.result) c.in_ok-format.ensures.ok in
    listed-more text _ c.args.items.now _ c.item-item.result _ _ _ c.loop-item-test.true c.item-item.is
    (c.loop-item.invariant text output) (c.as_str.ensures.value ∙ piece) c.in_ok-push_str.ensures.bytes

pub returns : goal.returns
returns g c text output = listed-all text _ c.args.items.now _ _ c.loop-item-test.false (c.loop-item.invariant text output)
