use Rattle.std.proofs.Common.{sym, refl, ◌∙◌, inl, inr, arith, rules}
use Rattle.std.proofs.lemmas.Option.{MatchOption-at_some}
use Rattle.script.specs.Numbers.{value_of, within}
use Rattle.script.proofs.number.number.Goals as goal
use Rattle.script.proofs.number.number.Goals.{in-88, in_default}

pub returns-else-value-from : goal.returns-else-value-from
returns-else-value-from c =
    let is = c.in_ok-value.ensures.ok_part in
    elim c.if-text-lt3.branch [
      | in-88 w ↦
          let h = MatchOption-at_some _ _ c.in_ok-value.value (sym w.value-is ∙ is) w.numeral-value.ensures in
          (value_of 16 (within c.args.text.now), inr (search rules), omega arith)
      | in_default w ↦
          let h = MatchOption-at_some _ _ c.in_ok-value.value (sym w.value-is ∙ is) w.numeral-value-in_default.ensures in
          (value_of 10 c.args.text.now, inl (h.0, refl), omega arith)
    ]
