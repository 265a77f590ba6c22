-- The digest FNV-1a of 64 bits.
use Rattle.std.specs.Prelude.{ℕ, ◌*◌, ◌%◌, ◌^◌, List, fold, bit_xor}
use Rattle.listing.specs.Hexadecimal.{hex_of, long_bytes}

-- The digest of no bytes.
abbrev pub basis : ℕ
basis = 14695981039346656037

-- One byte more.
abbrev pub mixed : ℕ → ℕ → ℕ
mixed h b = bit_xor h b * 1099511628211 % 2 ^ 64

-- Bytes more, in order.
abbrev pub digest_from : ℕ → List ℕ → ℕ
digest_from h bytes = fold mixed h bytes

abbrev pub digest_of : List ℕ → ℕ
digest_of bytes = digest_from basis bytes

-- The digits of a digest.
unfoldable pub digest_text : List ℕ → List ℕ
digest_text bytes = hex_of (long_bytes (digest_of bytes))
