use Rattle.queues.proofs.Moved.{fresh_linked, fresh_is}
use Rattle.queues.proofs.linked.LinkedQueues.new.Goals as goal

pub invariant_of-result : goal.invariant_of-result
invariant_of-result c = fresh_linked c.new.result c.new-2.result c.new.ensures c.new-2.ensures

pub returns : goal.returns
returns c = fresh_is c.new.result c.new-2.result c.new.ensures c.new-2.ensures
