use Rattle.std.proofs.Common.{sym, subst, ap, ◌∙◌, arith}
use Rattle.queues.specs.Five.{Good, dropped}
use Rattle.queues.specs.Lawful.{five_lawful}
use Rattle.queues.specs.Played.{big_left}
use Rattle.queues.proofs.five.FiveQueues.remove.Goals as goal

pub returns-in_default-clause-after : goal.returns-in_default-clause-after
returns-in_default-clause-after c = let s = c.args.self.now in big_left s.queues c.args.frame s.good (omega (arith, c.in_default.ensures))

pub invariant_of-self : goal.invariant_of-self
invariant_of-self c =
    let s = c.args.self.now in
    let f = c.in-Ok.frame in
    let after = c.unlink-answer.ensures.after ∙ ap (λ m. dropped m f) c.copied-queues.ensures in
    record { good = subst Good (sym after) (five_lawful.leave_good s.queues f s.good) }
