use Rattle.std.proofs.Common.{◌≡◌, ◌+◌, ◌*◌, ◌^◌, ◌<◌, min, get_or, ap, ◌∙◌, arith, below_more}
use Rattle.script.specs.Numbers.{digit_of}
use Rattle.script.proofs.Values.{digit_read, value_more}
use Rattle.script.proofs.number.numeral.Goals as goal

pub loop-c-preserved : goal.loop-c-preserved
loop-c-preserved c =
    let told = c.in_ok-digit.ensures.value in
    let read = digit_read c.from.result c.args.base c.in_ok-digit.digit c.requires.1 told.0 told.1 in
    let is : c.from-in-loop-c-2.result ≡ digit_of (get_or c.args.text.now c.loop-c.c-index 0)
    = c.from-in-loop-c-2.ensures ∙ read.0 ∙ ap digit_of c.from.ensures in
    let below : digit_of (get_or c.args.text.now c.loop-c.c-index 0) < c.args.base = rw c.from.ensures at read.1 in (
      c.min-value.ensures
          ∙ ap (λ b. min (c.loop-c.value * b + c.from-in-loop-c-2.result) (2 ^ 32)) c.from-in-loop-c.ensures
          ∙ ap (λ d. min (c.loop-c.value * c.args.base + d) (2 ^ 32)) is
          ∙ value_more c.args.base c.args.text.now c.loop-c.c-index c.loop-c.value (omega arith) (omega arith) c.loop-c.invariant.0,
      below_more _ _ c.loop-c.invariant.1 below,
    )
