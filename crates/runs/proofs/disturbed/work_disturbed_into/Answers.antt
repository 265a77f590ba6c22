use Rattle.std.proofs.Common.{refl, arith}
use Rattle.layout.specs.Config.{config_with}
use Rattle.machine.specs.Machine.{rules, world}
use Rattle.model.proofs.Runs.{steady_of}
use Rattle.model.specs.World.{LawfulParts}
use Rattle.runs.proofs.Handing.{steadily}
use Rattle.runs.proofs.Playing.{not_begun}
use Rattle.runs.specs.Disturbed.{handing}
use Rattle.runs.proofs.disturbed.work_disturbed_into.Goals as goal

pub returns-then-capacity-calls-clause-law : goal.returns-then-capacity-calls-clause-law
returns-then-capacity-calls-clause-law g c =
    steady_of (rules g.T.Translator g.P.Policy g.S.PageStore)
    (record { translator = g.met.T.Translator.lawful; policy = g.met.P.Policy.lawful; store = g.met.S.PageStore.lawful })

pub returns-in-Err : goal.returns-in-Err
returns-in-Err g c =
    let r = rules g.T.Translator g.P.Policy g.S.PageStore in
    let law : LawfulParts r = record { translator = g.met.T.Translator.lawful; policy = g.met.P.Policy.lawful; store = g.met.S.PageStore.lawful } in
    let found = world g.T.Translator g.P.Policy g.S.PageStore c.args.machine.now c.args.storage.now in
    let given = config_with c.args.start.sizes c.args.start.partitions.now in
    record { run = (omega arith, not_begun r given found _ c.in-Err.why c.in-Err.ensures.rule, c.in-Err.ensures.refused, refl, refl); law = steady_of r law }

pub returns : goal.returns
returns g c =
    let r = rules g.T.Translator g.P.Policy g.S.PageStore in
    let law : LawfulParts r = record { translator = g.met.T.Translator.lawful; policy = g.met.P.Policy.lawful; store = g.met.S.PageStore.lawful } in
    let own = c.args.machine.now.own in
    let found = world g.T.Translator g.P.Policy g.S.PageStore c.args.machine.now c.args.storage.now in
    let begun = world g.T.Translator g.P.Policy g.S.PageStore c.ipl.new.self c.ipl.new.storage in
    let given = config_with c.args.start.sizes c.args.start.partitions.now in
    record {
      run = (
        omega arith,
        steadily r law given (handing c.args.calls.now) found begun
            (record { translator = g.met.T.Translator.valid own.translator; policy = g.met.P.Policy.valid own.policy; store = g.met.S.PageStore.valid own.store })
            (world g.T.Translator g.P.Policy g.S.PageStore c.hand_all.new.machine) _ _ _ c.in_default.ensures.rule c.clear.ensures.items c.hand_all.ensures,
      );
      law = steady_of r law;
    }
