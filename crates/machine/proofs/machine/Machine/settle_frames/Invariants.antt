use Rattle.std.proofs.Common.{◌≡◌, ◌-◌}
use Rattle.machine.specs.Machine.{rules, world}
use Rattle.model.specs.Steps.{swept}
use Rattle.machine.proofs.machine.Machine.settle_frames.Given as goal

abbrev pub invariant-loop-frame : goal.invariant-loop-frame
invariant-loop-frame g l =
    swept (rules g.T.Translator g.P.Policy g.S.PageStore) l.frame (l.past - l.frame) (world g.T.Translator g.P.Policy g.S.PageStore l.self l.storage)
    ≡ swept (rules g.T.Translator g.P.Policy g.S.PageStore) l.first (l.past - l.first) (world g.T.Translator g.P.Policy g.S.PageStore l.initial.self l.initial.storage)
