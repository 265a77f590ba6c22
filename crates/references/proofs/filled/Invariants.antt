use Rattle.std.proofs.Common.{◌≡◌, ◌-◌}
use Rattle.references.specs.Reference.{returned}
use Rattle.references.proofs.filled.Given as goal

-- the frames below this one have been returned
abbrev pub invariant-loop-frame : goal.invariant-loop-frame
invariant-loop-frame g l = g.P.Policy.model l.policy ≡ returned g.P.Policy.rules (g.P.Policy.model l.initial.policy) (l.frame - 1)
