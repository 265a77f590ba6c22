use Rattle.queues.proofs.Moved.{refiled}
use Rattle.queues.proofs.linked.LinkedQueues.refile.Goals as goal

pub returns : goal.returns
returns c = refiled c.args.self.now c.unlink.new.self c.link.new.self c.args.queue c.args.frame c.unlink.ensures.after c.link.ensures.after
