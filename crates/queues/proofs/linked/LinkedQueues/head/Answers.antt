use Rattle.std.proofs.Common.{◌+◌, get_or, sym, ap, ◌∙◌}
use Rattle.queues.specs.Names.{frames_of, head_of}
use Rattle.queues.specs.Operations.{head_is}
use Rattle.queues.proofs.Moved.{frame_at}
use Rattle.queues.proofs.linked.LinkedQueues.head.Goals as goal

pub returns : goal.returns
returns c =
    let s = c.self.inside in
    c.ok.ensures.value ∙ frame_at c.try_from.result c.follow.result c.try_from.ensures
    ∙ sym (head_is s.next s.first c.follow.result c.args.queue (c.follow.ensures ∙ ap (λ k. get_or s.next (256 + k) 0) c.number.ensures))
    ∙ ap (λ x. head_of (frames_of x c.args.queue)) c.self.view_is
