-- What a page store means: which slots there are, which of them are bad, what each holds, and what a write leaves.
use Rattle.std.specs.Prelude.{◌≡◌, ℕ, ◌<◌, ◌≤◌, Bool, false, cond, List, length, Some, None, Ok, Err, Option, Result, ◌==◌, nat_lt}
use Rattle.pages.specs.declared.fault.Fault.{Fault}
use Rattle.pages.specs.declared.fault.StoreRefusal.{StoreRefusal}
use Rattle.pages.specs.declared.fault.StoreRefusal.TheVariants.{WrongLength, NoSuchSlot, BadSlot}

pub record Rules (M : Type 0) : Type 1 where
  -- the values that a store of this kind can have: what its type keeps true
  pub good : M → Type 0
  -- how many slots there are
  pub count : M → ℕ
  -- whether a slot is bad
  pub bad : M → ℕ → Bool
  -- the 2,048 bytes that a slot holds
  pub slot : M → ℕ → List ℕ
  -- what an answered write of a page to a slot leaves
  pub write : M → ℕ → List ℕ → M
  -- the fault by which it tells a refusal at a slot
  pub fault : M → StoreRefusal → ℕ → Fault

-- The first refusal that holds for a slot and a buffer of so many bytes.
abbrev pub refusal_at : {M : Type 0} → Rules M → M → ℕ → ℕ → Option StoreRefusal
refusal_at r m k n =
    cond (n == 2048) (cond (nat_lt k (r.count m)) (cond (r.bad m k) (Some BadSlot) None) (Some NoSuchSlot)) (Some WrongLength)

-- What a call answers, by that refusal.
abbrev pub told : {M : Type 0} → Rules M → M → ℕ → Option StoreRefusal → Result (Unit {0}) Fault
told r m k None = Ok tt
told r m k (Some why) = Err (r.fault m why k)

-- The buffer that a read leaves, and the store that a write leaves.
abbrev pub read_into : {M : Type 0} → Rules M → M → ℕ → List ℕ → Option StoreRefusal → List ℕ
read_into r m k buffer None = r.slot m k
read_into r m k buffer (Some why) = buffer

abbrev pub written : {M : Type 0} → Rules M → M → ℕ → List ℕ → Option StoreRefusal → M
written r m k page None = r.write m k page
written r m k page (Some why) = m

-- A slot that can be read and written.
abbrev pub Usable : {M : Type 0} → Rules M → M → ℕ → Type 0
Usable r m k = (k < r.count m) × (r.bad m k ≡ false)

-- What is certain of every page store.
pub record Lawful {M : Type 0} (r : Rules M) : Type 0 where
  pub few : (m : M) → r.good m → r.count m ≤ 8192
  pub long : (m : M) (k : ℕ) → r.good m → Usable r m k → length (r.slot m k) ≡ 2048
  pub fault_refusal : (m : M) (why : StoreRefusal) (k : ℕ) → (r.fault m why k).refusal ≡ why
  pub fault_slot : (m : M) (why : StoreRefusal) (k : ℕ) → (r.fault m why k).slot ≡ k
  pub write_good : (m : M) (k : ℕ) (page : List ℕ) → r.good m → Usable r m k → length page ≡ 2048 → r.good (r.write m k page)
  pub write_count : (m : M) (k : ℕ) (page : List ℕ) → r.good m → Usable r m k → length page ≡ 2048
      → r.count (r.write m k page) ≡ r.count m
  pub write_bad : (m : M) (k : ℕ) (page : List ℕ) (j : ℕ) → r.good m → Usable r m k → length page ≡ 2048
      → r.bad (r.write m k page) j ≡ r.bad m j
  pub write_slot : (m : M) (k : ℕ) (page : List ℕ) (j : ℕ) → r.good m → Usable r m k → Usable r m j → length page ≡ 2048
      → r.slot (r.write m k page) j ≡ cond (j == k) page (r.slot m j)
