use Rattle.machine.proofs.Called.{free_done}
use Rattle.machine.specs.Machine.{rules, world}
use Rattle.machine.proofs.machine.Machine.free.Goals as goal

pub returns-clause-rule : goal.returns-clause-rule
returns-clause-rule g c =
    free_done (rules g.T.Translator g.P.Policy g.S.PageStore) (world g.T.Translator g.P.Policy g.S.PageStore c.args.self.now c.args.storage.now)
    c.args.page c.in-Some.frame c.in_ok-request.request _ c.in_ok-request.ensures c.in-Some.is (c.free_frame.ensures c.args.storage.now)
