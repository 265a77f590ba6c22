use Rattle.machine.proofs.Called.{fix_done}
use Rattle.machine.specs.Machine.{rules, world}
use Rattle.machine.proofs.machine.Machine.fix.Goals as goal

pub returns-clause-rule : goal.returns-clause-rule
returns-clause-rule g c =
    let at = world g.T.Translator g.P.Policy g.S.PageStore in
    fix_done (rules g.T.Translator g.P.Policy g.S.PageStore) (at c.args.self.now c.args.storage.now) c.in_ok-request.request c.bring-frame.result
    (at (record { own = c.bring-frame.new.self }) c.bring-frame.new.storage) c.bring-frame.ensures.frame c.bring-frame.ensures.rule
    c.args.page _ c.in_ok-request.ensures (c.fix_frame.ensures c.bring-frame.new.storage)
