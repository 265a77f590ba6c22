use Rattle.machine.proofs.Called.{load_done}
use Rattle.machine.specs.Machine.{rules, world}
use Rattle.machine.proofs.machine.Machine.load.Goals as goal

pub returns-clause-rule : goal.returns-clause-rule
returns-clause-rule g c =
    let at = world g.T.Translator g.P.Policy g.S.PageStore in
    load_done (rules g.T.Translator g.P.Policy g.S.PageStore) (at c.args.self.now c.args.storage.now) c.in_ok-request.request c.bring-frame.result
    (at (record { own = c.bring-frame.new.self }) c.bring-frame.new.storage) c.bring-frame.ensures.frame c.bring-frame.ensures.rule
    c.args.address c.args.key c.read_byte.result _ c.in_ok-request.ensures c.read_byte.ensures.byte c.read_byte.ensures.rule
