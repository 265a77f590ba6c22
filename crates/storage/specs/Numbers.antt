-- The laws of numbers in storage, whatever their width: a read depends on its own bytes alone, a write alters its own bytes
-- alone, what was written is read, and a read elsewhere is not touched by a write.
use Rattle.std.specs.Prelude.{◌≡◌, ℕ, ◌+◌, ◌^◌, ◌<◌, ◌≤◌, ◌⊎◌, List, length}
use Rattle.storage.specs.Bytes.{half, word, put_half, put_word}
use Rattle.storage.specs.Laws.{Alike, Within}
use Rattle.storage.specs.Over.{laws, elsewhere}

-- The laws of the numbers N of n bytes; `small` says of a number that n bytes hold it.
pub record NumberLaws {N : Type 0} (n : ℕ) (small : N → Type 0) (read : List ℕ → ℕ → N) (put : List ℕ → ℕ → N → List ℕ) : Type 0 where
  pub alike : (s t : List ℕ) (at : ℕ) → Alike n at s t → read s at ≡ read t at
  pub within : (s : List ℕ) (at : ℕ) (v : N) → Within n at s (put s at v)
  pub same : (s : List ℕ) (at : ℕ) (v : N) → at + n ≤ length s → small v → read (put s at v) at ≡ v
  pub other : (m at b : ℕ) (s t : List ℕ) → Within m at s t → (b + n ≤ at) ⊎ (at + m ≤ b) → read t b ≡ read s b

pub half_laws : NumberLaws 2 (λ n. n < 2 ^ 16) half put_half
half_laws = record { alike = laws.alike.half_alike; within = laws.beside.half_within; same = laws.same.half_same; other = elsewhere.half_other }

pub word_laws : NumberLaws 4 (λ n. n < 2 ^ 32) word put_word
word_laws = record { alike = laws.alike.word_alike; within = laws.beside.word_within; same = laws.same.word_same; other = elsewhere.word_other }
