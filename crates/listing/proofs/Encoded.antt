-- The text that the crate hex writes, and hexadecimal text.
use Rattle.std.proofs.Common.{◌≡◌, ℕ, suc, ◌/◌, ◌%◌, ◌<◌, List, [], ◌∷◌, get_or, refl, arith}
use Rattle.hex.specs.Hex.{encode_with, upper_digits}
use Rattle.listing.specs.Hexadecimal.{hex_digit, hex_of}

-- A digit in the table of the sixteen.
digit_at : (d : ℕ) → d < 16 → get_or upper_digits d 0 ≡ hex_digit d
digit_at d h = grind arith

-- Bytes are written as the two digits of each.
pub encode_upper-is : (bytes : List ℕ) → ((k : ℕ) → get_or bytes k 0 < 256) → encode_with upper_digits bytes ≡ hex_of bytes
unfolding encode_with
encode_upper-is [] h = refl
encode_upper-is (b ∷ bs) h =
    let byte : b < 256 = h 0 in
    let high = digit_at (b / 16) (omega arith) in
    let low = digit_at (b % 16) (omega arith) in
    let rest = encode_upper-is bs (λ k. h (suc k)) in
    cc
