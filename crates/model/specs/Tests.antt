-- What the calls' tests rest on, in a consistent machine, whatever main storage holds: which frame is found for a page, and
-- when the tables pass for Settle and for Purge.
use Rattle.std.specs.Prelude.{◌≡◌, ℕ, ◌+◌, ◌*◌, ◌/◌, ◌<◌, ◌≤◌, List, length, Some, None, Ok, Err, ◌≢◌}
use Rattle.model.specs.declared.calls.Refusal.TheVariants.{Sizes, Tables}
use Rattle.model.specs.declared.shape.FrameRecord.{FrameRecord}
use Rattle.model.specs.Law.{Consistent, FrameRight, Pageable}
use Rattle.model.specs.Layout.{entry_at, key_of, no_page, page_in, segment_at, segment_entries, segment_word, segments}
use Rattle.model.specs.Refusals.{decode_purge, decode_settle, where_is}
use Rattle.model.specs.World.{Config, Parts, World}
use Rattle.storage.specs.Bytes.{half, word}

-- No pageable frame's record names the page.
abbrev pub Absent : Config → List FrameRecord → ℕ → Type 0
Absent c rs p = (f : ℕ) → Pageable c f → page_in rs f ≡ p → ⊥

-- The entries of every page that a pageable frame's record names are right.
abbrev pub FramesRight : Config → List FrameRecord → List ℕ → Type 0
FramesRight c rs s = (f : ℕ) → Pageable c f → (page_in rs f ≢ no_page) → FrameRight c s rs f

-- Main storage has its length, and every entry of both tables is right, bit 15 of a page entry aside: each segment entry,
-- fillers too; valid and in the frame of its own number for a supervisor page; valid and in its frame for a partition page
-- that a record names; invalid with its access key for one that none names; X'8004' for every other page.
pub record Entries (c : Config) (rs : List FrameRecord) (s : List ℕ) : Type 0 where
  pub long : length s ≡ 2048 * c.frames
  pub segment : (g : ℕ) → g < segment_entries c → word s (segment_at g) ≡ segment_word c g
  pub supervisor : (p : ℕ) → p < c.supervisor → half s (entry_at p) / 2 ≡ 4 * p
  pub inside : (f : ℕ) → Pageable c f → (page_in rs f ≡ no_page → ⊥) → half s (entry_at (page_in rs f)) / 2 ≡ 4 * f
  pub outside : (p key : ℕ) → key_of c.partitions p ≡ Some key → Absent c rs p → half s (entry_at p) / 2 ≡ 2 + 8 * key
  pub unused : (p : ℕ) → p < 32 * segments c → c.supervisor ≤ p → key_of c.partitions p ≡ None → half s (entry_at p) / 2 ≡ 0x4002

module _ {T P S : Type 0} (r : Parts T P S) where
  -- The frame found for a page is the pageable frame whose record names it, and none is found where no record does.
  pub record Found (w : World T P S) (p : ℕ) : Type 0 where
    pub named : (f : ℕ) → Pageable w.config f → page_in w.records f ≡ p → where_is w p ≡ Some f
    pub only : (f : ℕ) → where_is w p ≡ Some f → Pageable w.config f × (page_in w.records f ≡ p)
    pub absent : Absent w.config w.records p → where_is w p ≡ None

  -- so it is for each partition page; the refusals 35, 37 and 38 count the fixes of the frame that is found
  abbrev pub FoundOf : Type 0
  FoundOf = (w : World T P S) (p key : ℕ) → Consistent r w → key_of w.config.partitions p ≡ Some key → Found w p

  -- Settle: 32 where main storage has not its length, 54 where an entry of a page that a record names is wrong.
  pub record SettleTested (w : World T P S) : Type 0 where
    pub sizes : (length w.storage ≢ 2048 * w.config.frames) → decode_settle w ≡ Err Sizes
    pub wrong : length w.storage ≡ 2048 * w.config.frames → (FramesRight w.config w.records w.storage → ⊥) → decode_settle w ≡ Err Tables
    pub right : length w.storage ≡ 2048 * w.config.frames → FramesRight w.config w.records w.storage → decode_settle w ≡ Ok tt

  abbrev pub SettleTestOf : Type 0
  SettleTestOf = (w : World T P S) → Consistent r w → SettleTested w

  -- Purge: 32 where main storage has not its length, 54 where any entry of either table is wrong.
  pub record PurgeTested (w : World T P S) : Type 0 where
    pub sizes : (length w.storage ≢ 2048 * w.config.frames) → decode_purge w ≡ Err Sizes
    pub wrong : length w.storage ≡ 2048 * w.config.frames → (Entries w.config w.records w.storage → ⊥) → decode_purge w ≡ Err Tables
    pub right : Entries w.config w.records w.storage → decode_purge w ≡ Ok tt

  abbrev pub PurgeTestOf : Type 0
  PurgeTestOf = (w : World T P S) → Consistent r w → PurgeTested w
