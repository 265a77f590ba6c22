use Rattle.machine.specs.Machine.{rules}
use Rattle.model.proofs.Runs.{law_of}
use Rattle.runs.proofs.whole.work.Goals as goal

pub returns-in_default-clause-law : goal.returns-in_default-clause-law
returns-in_default-clause-law g c =
    law_of (rules g.T.Translator g.P.Policy g.S.PageStore)
    (record { translator = g.met.T.Translator.lawful; policy = g.met.P.Policy.lawful; store = g.met.S.PageStore.lawful })
