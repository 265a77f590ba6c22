-- Main storage as an operator sees and alters it.
use Rattle.std.specs.Prelude.{◌≡◌, ℕ, ◌+◌, ◌<◌, ◌≤◌, ◌⊎◌, List, length, take, drop, slice_index}

-- The n bytes at a place.
abbrev pub bytes_at : List ℕ → ℕ → ℕ → List ℕ
bytes_at s at n = take n (drop at s)

-- Storage t is storage s with these bytes at a place: they stand there, and no other byte is changed.
pub record Altered (s : List ℕ) (at : ℕ) (bytes t : List ℕ) : Type 0 where
  pub long : length t ≡ length s
  pub put : (k : ℕ) → k < length bytes → slice_index t (at + k) ≡ slice_index bytes k
  pub kept : (j : ℕ) → (j < at) ⊎ (at + length bytes ≤ j) → slice_index t j ≡ slice_index s j
