use Rattle.std.proofs.Common.{ap, ◌∙◌, arith}
use Rattle.dataset.specs.Format.{opened}
use Rattle.console.proofs.Fronts.{laid}
use Rattle.console.proofs.store.blank.Goals as goal

pub returns-in_ok-front-in-Err-TooManySlots-clause-refused : goal.returns-in_ok-front-in-Err-TooManySlots-clause-refused
returns-in_ok-front-in-Err-TooManySlots-clause-refused c many =
    ap (λ v. opened v.items) c.«open».ensures
    ∙ laid c.in_ok-front-in-Err-TooManySlots.front c.args.slots c.deref_mut.result.now c.write.new.storage
    c.deref_mut-in-Err-TooManySlots.result.now c.write-in-Err-TooManySlots.new.storage
    (c.in_ok-front-in-Err-TooManySlots.ensures.items_if_clones_equal (λ y q. q)) c.deref_mut.ensures.value c.write.ensures
    c.deref_mut-in-Err-TooManySlots.ensures.value c.write-in-Err-TooManySlots.ensures (omega (arith, c.ranges)) many
