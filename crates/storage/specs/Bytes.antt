-- Main storage as a list of bytes: the numbers and pages that stand in it, and what a write leaves.
-- Numbers have the high byte first. Each of these is shut: what is proved above this crate cites the laws.
use Rattle.std.specs.Prelude.{ℕ, ◌+◌, ◌*◌, ◌/◌, ◌%◌, Bool, cond, List, ◌++◌, length, take, drop, replicate, Some, None, Option, nat_le, slice_index, slice_set}

-- Whether the n bytes at a place stand wholly in storage.
abbrev pub fits : ℕ → List ℕ → ℕ → Bool
fits n s at = nat_le (at + n) (length s)

-- The 2-byte number at a place.
unfoldable pub half : List ℕ → ℕ → ℕ
half s at = 256 * slice_index s at + slice_index s (at + 1)

-- The 4-byte number at a place.
unfoldable pub word : List ℕ → ℕ → ℕ
word s at = 65536 * half s at + half s (at + 2)

-- Storage with a 2-byte number put at a place.
unfoldable pub put_half : List ℕ → ℕ → ℕ → List ℕ
put_half s at v = slice_set (slice_set s at (v / 256)) (at + 1) (v % 256)

-- Storage with a 4-byte number put at a place.
unfoldable pub put_word : List ℕ → ℕ → ℕ → List ℕ
put_word s at v = put_half (put_half s at (v / 65536)) (at + 2) (v % 65536)

-- The 2,048 bytes at a place.
unfoldable pub page : List ℕ → ℕ → List ℕ
page s at = take 2048 (drop at s)

-- Storage with 2,048 bytes put at a place.
unfoldable pub put_page : List ℕ → ℕ → List ℕ → List ℕ
put_page s at p = take at s ++ (p ++ drop (at + 2048) s)

-- 2,048 zero bytes; shut, so that no goal has them written out.
unfoldable pub zeros : List ℕ
zeros = replicate 2048 0

-- The bytes of a frame, and storage with the bytes of a frame replaced.
abbrev pub frame : List ℕ → ℕ → List ℕ
frame s f = page s (2048 * f)

abbrev pub put_frame : List ℕ → ℕ → List ℕ → List ℕ
put_frame s f p = put_page s (2048 * f) p

-- What a read of a number answers: none where it does not stand wholly in storage.
abbrev pub half_at : List ℕ → ℕ → Option ℕ
half_at s at = cond (fits 2 s at) (Some (half s at)) None

abbrev pub word_at : List ℕ → ℕ → Option ℕ
word_at s at = cond (fits 4 s at) (Some (word s at)) None

-- What a read of a page answers.
abbrev pub page_at : List ℕ → ℕ → Option (List ℕ)
page_at s at = cond (fits 2048 s at) (Some (page s at)) None
