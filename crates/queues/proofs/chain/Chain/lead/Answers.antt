use Rattle.std.proofs.Common.{set, sym, ap, ◌∙◌, arith}
use Rattle.std.proofs.lemmas.List.{set-append_right}
use Rattle.queues.proofs.chain.Chain.lead.Goals as goal

pub returns-then-node-lt261 : goal.returns-then-node-lt261
returns-then-node-lt261 c =
    let s = c.self.inside in
    sym (set-append_right s.frames s.ends 256 c.args.node c.args.to c.self.invariant.0 (omega arith)) ∙ ap (λ l. set l c.args.node c.args.to) c.self.view_is
