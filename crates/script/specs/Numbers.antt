-- Numbers as an operator writes them: decimal, as 31, or hexadecimal between quotes, as X'1F'.
use Rattle.std.specs.Prelude.{◌≡◌, ℕ, ◌+◌, ◌-◌, ◌*◌, ◌<◌, ◌≤◌, cond, ◌&&◌, ◌⊎◌, List, length, take, drop, Ok, Err, fold, Result, nat_le, slice_index, slice_index_or}
use Rattle.script.specs.declared.number.NotNumber.{NotNumber}
use Rattle.script.specs.declared.number.NotNumber.TheVariants.{Malformed, TooLarge}

-- The digit that a character is, 0 to 15; 16 where it is none.
abbrev pub digit_of : ℕ → ℕ
digit_of c =
    cond (nat_le 48 c && nat_le c 57) (c - 48)
    (cond (nat_le 65 c && nat_le c 70) (c - 55) (cond (nat_le 97 c && nat_le c 102) (c - 87) 16))

-- One character or more, each a digit of the base.
pub record Numeral (base : ℕ) (text : List ℕ) : Type 0 where
  pub some : 0 < length text
  pub digits : (k : ℕ) → k < length text → digit_of (slice_index text k) < base

-- The number that digits of a base write, the highest in front.
abbrev pub value_of : ℕ → List ℕ → ℕ
value_of base text = fold (λ v c. v * base + digit_of c) 0 text

-- X and a quote in front, and a quote behind.
pub record Quoted (text : List ℕ) : Type 0 where
  pub long : 3 ≤ length text
  pub letter : slice_index_or text 0 0 ≡ 88
  pub opens : slice_index_or text 1 0 ≡ 39
  pub closes : slice_index_or text (length text - 1) 0 ≡ 39

-- What stands between the quotes.
abbrev pub within : List ℕ → List ℕ
within text = take (length text - 1 - 2) (drop 2 text)

-- A text writes a number.
abbrev pub Writes : List ℕ → ℕ → Type 0
Writes text v =
    (Numeral 10 text × (v ≡ value_of 10 text)) ⊎ (Quoted text × Numeral 16 (within text) × (v ≡ value_of 16 (within text)))

-- What reading a number up to a largest one answers.
abbrev pub ReadsTo : List ℕ → ℕ → Result ℕ NotNumber → Type 0
ReadsTo text largest (Ok v) = Writes text v × (v ≤ largest)
ReadsTo text largest (Err Malformed) = (v : ℕ) → Writes text v → ⊥
ReadsTo text largest (Err TooLarge) = (v : ℕ) × Writes text v × (largest < v)
