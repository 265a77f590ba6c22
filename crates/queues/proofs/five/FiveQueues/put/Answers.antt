use Rattle.std.proofs.Common.{cond, eqb, sym, subst, ap, ◌∙◌, arith}
use Rattle.queues.specs.Five.{Good, on, times_held}
use Rattle.queues.specs.Lawful.{entered_good}
use Rattle.queues.specs.Played.{linked_entered}
use Rattle.queues.proofs.five.FiveQueues.put.Goals as goal

pub invariant_of-self : goal.invariant_of-self
invariant_of-self c =
    let m = c.args.self.now.queues in
    let f = c.in-Ok.frame in
    let after = c.link-answer.ensures.after ∙ ap (λ x. cond (eqb (times_held x f) 0) (on c.args.queue x f) x) c.copied-queues.ensures in
    let is = linked_entered m (on c.args.queue m f) c.link-answer.new.self f (omega (arith, c.in-Ok.ensures)) after in
    record { good = subst Good (sym is) (entered_good c.args.queue m f c.args.self.now.good) }
