-- The change bit of a storage key, as the code sets and clears it.
use Rattle.std.proofs.Common.{◌≡◌, ℕ, ◌+◌, ◌*◌, ◌/◌, ◌%◌, ◌<◌, ◌^◌, bit_and, bit_or, ap, ◌∙◌, arith}
use Rattle.std.specs.Int.Bits.{or_add_and, and_block}
use Rattle.std.proofs.lemmas.Nat.{and_mask}
use Rattle.std.proofs.lemmas.Nat.Bits.{and_pow}
use Rattle.model.specs.Steps.{change_off, change_on}

pub change_set : (key : ℕ) → bit_or key 2 ≡ change_on key
change_set key = omega (arith, or_add_and key 2, and_pow key 1)

pub change_cleared : (key : ℕ) → key < 256 → bit_and key 253 ≡ change_off key
change_cleared key h =
    let split : key ≡ key / 4 * 2 ^ 2 + key % 4 = omega arith in
    let high = and_mask (key / 4) 6 in
    let low = and_mask (key % 4) 1 in
    let blocks = and_block 2 (key / 4) 63 (key % 4) 1 (omega arith) (omega arith) in
    ap (λ k. bit_and k 253) split ∙ omega (arith, high, low, blocks)
