-- Bits of a word of 32 bits and of a halfword of 16, bit 0 leftmost.
use Rattle.std.specs.Prelude.{ℕ, ◌+◌, ◌-◌, ◌/◌, ◌%◌, ◌^◌}

-- Bits first to last of a word, as a number.
abbrev pub word_bits : ℕ → ℕ → ℕ → ℕ
word_bits first last w = w / 2 ^ (31 - last) % 2 ^ (last + 1 - first)

-- Bits first to last of a halfword, as a number.
abbrev pub half_bits : ℕ → ℕ → ℕ → ℕ
half_bits first last h = h / 2 ^ (15 - last) % 2 ^ (last + 1 - first)
