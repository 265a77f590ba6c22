use Rattle.std.proofs.Common.{◌≡◌, ℕ, ◌^◌, ◌<◌, min, get_or, take}
use Rattle.script.specs.Numbers.{digit_of, value_of}
use Rattle.script.proofs.number.numeral.Given as goal

abbrev pub invariant-loop-c : goal.invariant-loop-c
invariant-loop-c l =
    (l.value ≡ min (value_of l.base (take l.c-index l.text)) (2 ^ 32))
    × ((k : ℕ) → k < l.c-index → digit_of (get_or l.text k 0) < l.base)
