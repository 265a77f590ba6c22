-- Storage keys, a byte for each frame. Bit 0 is leftmost: access key in bits 0 to 3, reference bit 5, change bit 6.
use Rattle.std.specs.Prelude.{ℕ, ◌+◌, ◌-◌, ◌*◌, ◌/◌, ◌%◌, Bool, ◌==◌}

-- the access key
abbrev pub access_of : ℕ → ℕ
access_of key = key / 16

-- whether the frame was referred to
abbrev pub referred : ℕ → Bool
referred key = key / 4 % 2 == 1

-- whether the frame was changed
abbrev pub changed : ℕ → Bool
changed key = key / 2 % 2 == 1

-- the key with its reference bit off, and every other bit as it was
abbrev pub reference_off : ℕ → ℕ
reference_off key = key - 4 * (key / 4 % 2)

-- the key with its reference bit on, and every other bit as it was
abbrev pub reference_on : ℕ → ℕ
reference_on key = key + 4 * (1 - key / 4 % 2)
