use Rattle.std.proofs.Common.{sym, subst}
use Rattle.frames.specs.Held.{Once}
use Rattle.lru_list.proofs.Kept.{once_dropped}
use Rattle.lru_list.proofs.policy.LruListPolicy.take.Goals as goal

pub invariant_of-self : goal.invariant_of-self
invariant_of-self c = record { once = subst Once (sym c.remove.ensures.after) (once_dropped c.args.self.now.frames c.args.self.now.once) }
