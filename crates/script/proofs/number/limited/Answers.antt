use Rattle.std.proofs.Common.{rules}
use Rattle.script.proofs.Faulty.{limited_reads}
use Rattle.script.proofs.number.limited.Goals as goal

pub returns : goal.returns
returns c = limited_reads _ c.args.verb c.args.word.now c.args.largest c.number.result _ (rw c.as_bytes.ensures.value at c.number.ensures) c.map_err.ensures.cases (λ why e h. search rules)
