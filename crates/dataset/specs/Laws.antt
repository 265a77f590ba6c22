-- What opening accepts, and what a write touches, byte for byte.
use Rattle.std.specs.Prelude.{◌≡◌, ℕ, ◌<◌, true, List, length, ◌≢◌, slice_index}
use Rattle.pages.specs.Store.{Usable}
use Rattle.storage.specs.Bytes.{page}
use Rattle.dataset.specs.Format.{Formed, is_data_set, mark_of, opened, place_of, set_rules, slots_in}

-- What a page written to a slot leaves: its mark says written, its bytes are the page; the two numbers at the front, the
-- other marks and the bytes of the other slots, blank and bad ones too, are as they were.
pub record Touched (before : List ℕ) (k : ℕ) (p after : List ℕ) : Type 0 where
  pub long : length after ≡ length before
  pub front : (j : ℕ) → j < 8 → slice_index after j ≡ slice_index before j
  pub accepted : opened after ≡ opened before
  pub mark : mark_of after k ≡ 1
  pub filled : page after (place_of before k) ≡ p
  pub marks : (j : ℕ) → j < slots_in before → (j ≢ k) → mark_of after j ≡ mark_of before j
  pub pages : (j : ℕ) → j < slots_in before → (j ≢ k) → page after (place_of before j) ≡ page before (place_of before j)

pub record SetLaws : Type 0 where
  -- opening accepts the areas of the format, and no other
  pub accepts : (bytes : List ℕ) → Formed bytes → is_data_set bytes ≡ true
  pub refuses : (bytes : List ℕ) → is_data_set bytes ≡ true → Formed bytes
  pub touches : (bytes : List ℕ) (k : ℕ) (p : List ℕ) → Usable set_rules bytes k → length p ≡ 2048 → Touched bytes k p (set_rules.write bytes k p)
