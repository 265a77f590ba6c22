use Rattle.std.proofs.Common.{◌≡◌, ◌-◌, ap, ◌∙◌, arith}
use Rattle.references.specs.Reference.{returned}
use Rattle.references.proofs.filled.Goals as goal

pub returns-clause-held : goal.returns-clause-held
returns-clause-held g c =
    let last : c.loop-frame.frame - 1 ≡ 4 = omega arith in
    c.loop-frame.invariant ∙ ap (returned g.P.Policy.rules (g.P.Policy.model c.args.policy)) last
