-- What reads give over writes. A read depends on its own bytes alone (Local), a write leaves every byte but its own
-- (Beside), and a read gives back what was written at its place (Same): with these three no proof above has to see
-- how a number or a page lies in the list.
use Rattle.std.specs.Prelude.{◌≡◌, ℕ, ◌+◌, ◌^◌, ◌<◌, ◌≤◌, ◌⊎◌, List, length, replicate, slice_index, slice_set}
use Rattle.storage.specs.Bytes.{half, word, put_half, put_word, page, put_page, zeros}

-- Two storages have the same n bytes at a place.
abbrev pub Alike : ℕ → ℕ → List ℕ → List ℕ → Type 0
Alike n at s t = (j : ℕ) → at ≤ j → j < at + n → slice_index s j ≡ slice_index t j

-- Storage t has the length of s and differs from it at most in the n bytes at a place.
pub record Within (n at : ℕ) (s t : List ℕ) : Type 0 where
  pub long : length t ≡ length s
  pub kept : (j : ℕ) → (j < at) ⊎ (at + n ≤ j) → slice_index t j ≡ slice_index s j

-- Each read depends on its own bytes alone.
pub record Local : Type 0 where
  pub half_alike : (s t : List ℕ) (at : ℕ) → Alike 2 at s t → half s at ≡ half t at
  pub word_alike : (s t : List ℕ) (at : ℕ) → Alike 4 at s t → word s at ≡ word t at
  pub page_alike : (s t : List ℕ) (at : ℕ) → at + 2048 ≤ length s → at + 2048 ≤ length t → Alike 2048 at s t → page s at ≡ page t at

-- Each write alters its own bytes alone.
pub record Beside : Type 0 where
  pub set_within : (s : List ℕ) (at v : ℕ) → Within 1 at s (slice_set s at v)
  pub half_within : (s : List ℕ) (at v : ℕ) → Within 2 at s (put_half s at v)
  pub word_within : (s : List ℕ) (at v : ℕ) → Within 4 at s (put_word s at v)
  pub page_within : (s : List ℕ) (at : ℕ) (p : List ℕ) → at + 2048 ≤ length s → length p ≡ 2048 → Within 2048 at s (put_page s at p)

-- What was written at a place is read there.
pub record Same : Type 0 where
  pub half_same : (s : List ℕ) (at v : ℕ) → at + 2 ≤ length s → v < 2 ^ 16 → half (put_half s at v) at ≡ v
  pub word_same : (s : List ℕ) (at v : ℕ) → at + 4 ≤ length s → v < 2 ^ 32 → word (put_word s at v) at ≡ v
  pub page_same : (s : List ℕ) (at : ℕ) (p : List ℕ) → at + 2048 ≤ length s → length p ≡ 2048 → page (put_page s at p) at ≡ p

-- Pages and their bytes.
pub record Pages : Type 0 where
  pub page_long : (s : List ℕ) (at : ℕ) → at + 2048 ≤ length s → length (page s at) ≡ 2048
  pub zeros_long : length zeros ≡ 2048
  pub zeros_at : (i : ℕ) → slice_index zeros i ≡ 0
  -- a byte of storage is a byte of its page
  pub page_at : (s : List ℕ) (at i : ℕ) → i < 2048 → slice_index (page s at) i ≡ slice_index s (at + i)
  -- a byte set in a page
  pub set_page : (s : List ℕ) (at i v : ℕ) → i < 2048 → page (slice_set s (at + i) v) at ≡ slice_set (page s at) i v
  -- storage of zeros has pages of zeros
  pub blank : (n at : ℕ) → at + 2048 ≤ n → page (replicate n 0) at ≡ zeros

pub record Laws : Type 0 where
  pub alike : Local
  pub beside : Beside
  pub same : Same
  pub pages : Pages

-- Other places: a read elsewhere is not touched by a write.
pub record Elsewhere : Type 0 where
  pub half_other : (n at b : ℕ) (s t : List ℕ) → Within n at s t → (b + 2 ≤ at) ⊎ (at + n ≤ b) → half t b ≡ half s b
  pub word_other : (n at b : ℕ) (s t : List ℕ) → Within n at s t → (b + 4 ≤ at) ⊎ (at + n ≤ b) → word t b ≡ word s b
  pub page_other : (n at b : ℕ) (s t : List ℕ) → Within n at s t → b + 2048 ≤ length s → (b + 2048 ≤ at) ⊎ (at + n ≤ b) → page t b ≡ page s b
