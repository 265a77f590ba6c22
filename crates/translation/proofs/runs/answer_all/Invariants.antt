use Rattle.std.proofs.Common.{drop, vec_items}
use Rattle.translation.proofs.Coherent.{Left}
use Rattle.translation.proofs.runs.answer_all.Given as goal

abbrev pub invariant-loop-ask : goal.invariant-loop-ask
invariant-loop-ask g l =
    Left g.T.Translator.rules l.storage (drop l.ask-index l.asks) l.asks
    (g.T.Translator.model l.translator) (g.T.Translator.model l.initial.translator) (vec_items l.told)
