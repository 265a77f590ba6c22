-- One bit of a storage key, as the code tests, clears and sets it.
use Rattle.std.proofs.Common.{◌≡◌, ℕ, ◌+◌, ◌*◌, ◌/◌, ◌%◌, ◌<◌, ◌^◌, zero, suc, not, eqb, bit_and, bit_or, ap, ◌∙◌, arith}
use Rattle.std.specs.Int.Bits.{or_add_and, and_block}
use Rattle.std.proofs.lemmas.Nat.{and_mask}
use Rattle.std.proofs.lemmas.Nat.Bits.{and_pow}
use Rattle.std.proofs.lemmas.Bool.{eq-eqb, ne_eqb}
use Rattle.frames.specs.Keys.{referred, changed, reference_off, reference_on}

-- a bit masked out is not 0 exactly if it is 1
masked : (bit value n : ℕ) → bit < 2 → 0 < value → n ≡ bit * value → not (eqb n 0) ≡ eqb bit 1
masked zero value n h some e = ap not (eq-eqb n 0 (omega arith))
masked (suc zero) value n h some e = ap not (ne_eqb n 0 (λ z. omega arith))
masked (suc (suc bit)) value n h some e = absurd (omega arith)

pub reference_masked : (key : ℕ) → not (eqb (bit_and key 4) 0) ≡ referred key
reference_masked key = masked (key / 4 % 2) 4 (bit_and key 4) (omega arith) (omega arith) (and_pow key 2)

pub change_masked : (key : ℕ) → not (eqb (bit_and key 2) 0) ≡ changed key
change_masked key = masked (key / 2 % 2) 2 (bit_and key 2) (omega arith) (omega arith) (and_pow key 1)

pub reference_set : (key : ℕ) → bit_or key 4 ≡ reference_on key
reference_set key = omega (arith, or_add_and key 4, and_pow key 2)

pub reference_cleared : (key : ℕ) → key < 256 → bit_and key 251 ≡ reference_off key
reference_cleared key h =
    let split : key ≡ key / 8 * 2 ^ 3 + key % 8 = omega arith in
    let high = and_mask (key / 8) 5 in
    let low = and_mask (key % 8) 2 in
    let blocks = and_block 3 (key / 8) 31 (key % 8) 3 (omega arith) (omega arith) in
    ap (λ k. bit_and k 251) split ∙ omega (arith, high, low, blocks)
