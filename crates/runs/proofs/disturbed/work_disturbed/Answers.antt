use Rattle.machine.specs.Machine.{rules}
use Rattle.model.proofs.Runs.{steady_of}
use Rattle.runs.proofs.disturbed.work_disturbed.Goals as goal

pub returns-in_default-clause-law : goal.returns-in_default-clause-law
returns-in_default-clause-law g c =
    steady_of (rules g.T.Translator g.P.Policy g.S.PageStore)
    (record { translator = g.met.T.Translator.lawful; policy = g.met.P.Policy.lawful; store = g.met.S.PageStore.lawful })
