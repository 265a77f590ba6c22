use Rattle.std.proofs.Common.{◌≡◌, vec_items, arith}
use Rattle.std.proofs.lemmas.Grind.{common_steps}
use Rattle.frames.specs.Runs.{run}
use Rattle.frames.proofs.Told.{told_at}
use Rattle.frames.proofs.runs.play.Goals as goal

pub returns-clause-held : goal.returns-clause-held
returns-clause-held g c =
    let r = g.P.Policy.rules in
    let all = run r c.args.calls.now (g.P.Policy.model c.args.policy.now) c.args.keys.now in
    let says : vec_items c.loop-call.answers ≡ all.answers = grind (arith, common_steps) in
    let left : g.P.Policy.model c.loop-call.policy ≡ all.left = grind (arith, common_steps) in
    told_at r g.met.P.Policy.lawful c.args.calls.now (g.P.Policy.model c.args.policy.now) (g.P.Policy.model c.loop-call.policy) c.args.keys.now (vec_items c.loop-call.answers)
    (g.met.P.Policy.valid c.args.policy.now) says left
