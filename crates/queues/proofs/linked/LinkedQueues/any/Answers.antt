use Rattle.std.proofs.Common.{◌≡◌, [], ◌∷◌, is_some, ◌∙◌, rules}
use Rattle.std.specs.List.{list_any}
use Rattle.queues.specs.declared.queue.Queue.TheVariants.{Q00, Q01, Q10, Q11, Hq}
use Rattle.queues.specs.Names.{frames_of, head_of}
use Rattle.queues.proofs.Moved.{any_held}
use Rattle.queues.proofs.linked.LinkedQueues.any.Goals as goal

pub returns : goal.returns
returns c =
    let m = c.args.self.now in
    let a : c.any.result ≡ list_any (λ queue. is_some (head_of (frames_of m queue))) (Q00 ∷ (Q01 ∷ (Q10 ∷ (Q11 ∷ (Hq ∷ []))))) = search rules in
    a ∙ any_held m
