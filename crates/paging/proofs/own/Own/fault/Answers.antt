use Rattle.paging.proofs.Told.{fault_told}
use Rattle.paging.specs.Seen.{rules_of, seen}
use Rattle.paging.proofs.own.Own.fault.Goals as goal

pub returns-clause-rule : goal.returns-clause-rule
returns-clause-rule g c =
    let at = seen g.T.Translator g.P.Policy g.S.PageStore in
    let s = c.args.storage.now in
    fault_told (rules_of g.T.Translator g.P.Policy g.S.PageStore) (at c.args.self.now s) (at c.take-taken.new.self s)
    (at c.empty-emptied.new.self c.empty-emptied.new.storage) (at c.empty-emptied.new.self c.fill-filled.new.storage)
    (at c.connect.new.self c.connect.new.storage)
    c.take-taken.result.frame c.empty-emptied.result.frame c.fill-filled.result.frame c.connect.result
    c.args.page c.take-taken.result.page c.empty-emptied.result.page c.fill-filled.result.page
    (c.take-taken.ensures.frame s) c.take-taken.ensures.page (c.take-taken.ensures.rule s)
    c.empty-emptied.ensures.same.0 c.empty-emptied.ensures.same.1 c.empty-emptied.ensures.rule
    c.fill-filled.ensures.same.0 c.fill-filled.ensures.same.1 c.fill-filled.ensures.rule
    c.connect.ensures.frame c.connect.ensures.rule
