-- A plain area: slots side by side from its first byte on, none of them bad.
use Rattle.std.specs.Prelude.{◌≡◌, ℕ, ◌*◌, ◌/◌, ◌≤◌, min, false, List, length, None, ◌≢◌, slice_index}
use Rattle.pages.specs.declared.fault.Fault.{Fault}
use Rattle.pages.specs.declared.fault.StoreRefusal.{StoreRefusal}
use Rattle.pages.specs.Store.{Rules, Usable}
use Rattle.storage.specs.Bytes.{page, put_page}

-- How many slots an area of so many bytes has: the whole ones, and no more than 8,192.
abbrev pub slots_of : ℕ → ℕ
slots_of bytes = min 8192 (bytes / 2048)

-- A fault of kind 1.
abbrev pub plain_fault : StoreRefusal → ℕ → Fault
plain_fault why k = record { refusal = why; kind = 1; slot = k; cause = None }

-- The meaning of an area is its bytes, those that belong to no slot among them.
abbrev pub plain_rules : Rules (List ℕ)
plain_rules = record {
  good = λ bytes. Unit {0};
  count = λ bytes. slots_of (length bytes);
  bad = λ bytes k. false;
  slot = λ bytes k. page bytes (2048 * k);
  write = λ bytes k p. put_page bytes (2048 * k) p;
  fault = λ bytes why k. plain_fault why k;
}

-- What a page written to a slot leaves, byte for byte: the length, the other slots, and the bytes that belong to no slot.
pub record Touched (before : List ℕ) (k : ℕ) (p after : List ℕ) : Type 0 where
  pub long : length after ≡ length before
  pub filled : page after (2048 * k) ≡ p
  pub pages : (j : ℕ) → Usable plain_rules before j → (j ≢ k) → page after (2048 * j) ≡ page before (2048 * j)
  pub unused : (j : ℕ) → 2048 * slots_of (length before) ≤ j → slice_index after j ≡ slice_index before j

pub record PlainLaws : Type 0 where
  pub touches : (bytes : List ℕ) (k : ℕ) (p : List ℕ) → Usable plain_rules bytes k → length p ≡ 2048 → Touched bytes k p (plain_rules.write bytes k p)
