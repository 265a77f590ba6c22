use Rattle.std.proofs.Common.{length, sym, ap, ◌∙◌, arith}
use Rattle.std.proofs.lemmas.List.Edits.{length-remove}
use Rattle.translation.specs.Layers.{without}
use Rattle.translation.proofs.Steps.{without_first, without_nowhere}
use Rattle.translation.proofs.tlb.calls.drop_pairs.Goals as goal

pub loop-place-smaller : goal.loop-place-smaller
loop-place-smaller c = omega (arith, ap length c.remove.ensures.after, length-remove c.loop-place.pairs c.in-Some.place c.in-Some.ensures.within)

pub loop-place-preserved : goal.loop-place-preserved
loop-place-preserved c = record {
  fewer = omega (arith, ap length c.remove.ensures.after, length-remove c.loop-place.pairs c.in-Some.place c.in-Some.ensures.within);
  others = ap (without c.args.page) c.remove.ensures.after ∙ without_first c.loop-place.pairs c.args.page c.in-Some.place (sym c.in-Some.ensures.place) ∙ c.loop-place.invariant.others;
}

pub returns : goal.returns
returns c = record {
  left = sym (without_nowhere c.loop-place.pairs c.args.page 0 (sym c.in_default.ensures.place)) ∙ c.loop-place.invariant.others;
  few = λ h. omega arith;
}
