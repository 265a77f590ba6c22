use Rattle.std.proofs.Common.{◌≡◌, ap, ◌∙◌, vec_items, arith}
use Rattle.std.proofs.lemmas.Grind.{common_steps}
use Rattle.translation.specs.Runs.{answers}
use Rattle.translation.proofs.Coherent.{run_walked}
use Rattle.translation.proofs.runs.answer_all.Goals as goal

pub returns-clause-walked : goal.returns-clause-walked
returns-clause-walked g c =
    let r = g.T.Translator.rules in
    let s = c.args.storage.now in
    let m = g.T.Translator.model c.args.translator.now in
    let told : vec_items c.loop-ask.told ≡ answers r s (g.T.Translator.model c.start_run.new.translator) c.args.asks.now = grind (arith, common_steps) in
    told ∙ ap (λ n. answers r s n c.args.asks.now) c.start_run.ensures
    ∙ run_walked r g.met.T.Translator.lawful s m (g.met.T.Translator.valid c.args.translator.now) c.args.start c.args.asks.now
