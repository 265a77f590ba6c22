use Rattle.std.proofs.Common.{◌≡◌, ◌-◌}
use Rattle.model.specs.Ipl.{first_fault}
use Rattle.machine.proofs.ipl.first_fault.Given as goal

abbrev pub invariant-loop-slot : goal.invariant-loop-slot
invariant-loop-slot g l =
    first_fault g.S.PageStore.rules (g.S.PageStore.model l.store) l.slot (l.slots - l.slot)
    ≡ first_fault g.S.PageStore.rules (g.S.PageStore.model l.store) 0 l.slots
