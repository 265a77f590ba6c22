use Rattle.std.proofs.Common.{◌≡◌}
use Rattle.queues.specs.Played.{rest}
use Rattle.queues.specs.Weight.{weight}
use Rattle.queues.proofs.linked.LinkedQueues.pick.Given as goal

-- what is left of Take gives what all of it gives
abbrev pub invariant-loop-self : goal.invariant-loop-self
invariant-loop-self l = rest l.self l.keys ≡ rest l.initial.self l.initial.keys

-- each turn that takes no frame lowers the weight
abbrev pub decreases-loop-self : goal.decreases-loop-self
decreases-loop-self l = weight l.self l.keys
