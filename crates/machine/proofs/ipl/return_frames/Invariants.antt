use Rattle.std.proofs.Common.{◌≡◌, ◌-◌}
use Rattle.model.specs.Ipl.{returned}
use Rattle.machine.proofs.ipl.return_frames.Given as goal

abbrev pub invariant-loop-frame : goal.invariant-loop-frame
invariant-loop-frame g l =
    returned g.P.Policy.rules l.frame (l.past - l.frame) (g.P.Policy.model l.policy)
    ≡ returned g.P.Policy.rules l.first (l.past - l.first) (g.P.Policy.model l.initial.policy)
