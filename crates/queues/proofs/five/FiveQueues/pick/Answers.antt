use Rattle.std.proofs.Common.{sym, subst, ap, ◌∙◌}
use Rattle.queues.specs.Five.{Good, taken}
use Rattle.queues.specs.Lawful.{five_lawful}
use Rattle.queues.proofs.Order.{laws_at}
use Rattle.queues.proofs.five.FiveQueues.pick.Goals as goal

pub invariant_of-self : goal.invariant_of-self
invariant_of-self c =
    let after = c.pick-frame.ensures.after ∙ ap (λ m. (taken m c.args.keys.now).left) c.copied-queues.ensures in
    record { good = subst Good (sym after) (five_lawful.take_good c.args.self.now.queues c.args.keys.now c.args.self.now.good) }

pub returns-clause-laws : goal.returns-clause-laws
returns-clause-laws c =
    let k = c.args.keys.now in
    let q = c.copied-queues.ensures in
    laws_at c.args.self.now.queues k c.pick-frame.result c.pick-frame.new.keys c.pick-frame.new.self c.args.self.now.good
    (c.pick-frame.ensures.answer ∙ ap (λ m. (taken m k).frame) q) (c.pick-frame.ensures.keys ∙ ap (λ m. (taken m k).keys) q)
    (c.pick-frame.ensures.after ∙ ap (λ m. (taken m k).left) q)
