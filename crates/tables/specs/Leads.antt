-- What a real address is, in the architecture's own words, and that the walk answers it exactly where there is one.
use Rattle.std.specs.Prelude.{◌≡◌, ℕ, ◌+◌, ◌*◌, ◌/◌, ◌<◌, ◌≤◌, List, length, Ok}
use Rattle.storage.specs.Bytes.{half, word}
use Rattle.tables.specs.Bits.{half_bits, word_bits}
use Rattle.tables.specs.declared.Controls.{Controls}
use Rattle.tables.specs.declared.PageSize.{PageSize}
use Rattle.tables.specs.declared.PageSize.TheVariants.{Bytes2048, Bytes4096}
use Rattle.tables.specs.declared.SegmentSize.{SegmentSize}
use Rattle.tables.specs.declared.SegmentSize.TheVariants.{Bytes65536, Bytes1048576}
use Rattle.tables.specs.declared.Sizes.{Sizes}
use Rattle.tables.specs.Walk.{page_bytes, segment_bytes, frame_field, walk}

-- Control word 0 names a page size in bits 8 and 9, a segment size in bits 11 and 12, and bit 10 is off.
abbrev pub NamesPage : ℕ → PageSize → Type 0
NamesPage cr0 Bytes2048 = word_bits 8 9 cr0 ≡ 1
NamesPage cr0 Bytes4096 = word_bits 8 9 cr0 ≡ 2

abbrev pub NamesSegment : ℕ → SegmentSize → Type 0
NamesSegment cr0 Bytes65536 = word_bits 11 12 cr0 ≡ 0
NamesSegment cr0 Bytes1048576 = word_bits 11 12 cr0 ≡ 2

pub record Names (cr0 : ℕ) (z : Sizes) : Type 0 where
  pub page : NamesPage cr0 z.page
  pub segment : NamesSegment cr0 z.segment
  pub plain : word_bits 10 10 cr0 ≡ 0

-- The address is made of a segment, a page of it and a byte of that.
pub record Splits (z : Sizes) (a segment page byte : ℕ) : Type 0 where
  pub sum : a ≡ segment_bytes z.segment * segment + page_bytes z.page * page + byte
  pub in_page : byte < page_bytes z.page
  pub in_segment : page_bytes z.page * page + byte < segment_bytes z.segment
  pub short : a < 16777216

-- The segment table that control word 1 names has an entry for the segment, in storage, with no reserved bit on, and valid.
pub record SegmentGives (s : List ℕ) (cr1 segment entry : ℕ) : Type 0 where
  pub in_table : segment / 16 ≤ word_bits 0 7 cr1
  pub stored : 64 * word_bits 8 25 cr1 + 4 * segment + 4 ≤ length s
  pub stands : entry ≡ word s (64 * word_bits 8 25 cr1 + 4 * segment)
  pub reserved : (word_bits 4 4 entry ≡ 0) × (word_bits 5 5 entry ≡ 0) × (word_bits 6 6 entry ≡ 0) × (word_bits 7 7 entry ≡ 0)
      × (word_bits 29 29 entry ≡ 0) × (word_bits 30 30 entry ≡ 0)
  pub valid : word_bits 31 31 entry ≡ 0

-- A page entry has its reserved bits off and is valid.
abbrev pub Valid : PageSize → ℕ → Type 0
Valid Bytes2048 h = (half_bits 14 14 h ≡ 0) × (half_bits 13 13 h ≡ 0)
Valid Bytes4096 h = (half_bits 14 14 h ≡ 0) × (half_bits 13 13 h ≡ 0) × (half_bits 12 12 h ≡ 0)

-- The page table that a segment entry names has an entry for the page, in storage and valid.
pub record PageGives (s : List ℕ) (z : Sizes) (entry page h : ℕ) : Type 0 where
  pub in_table : page * 16 / (segment_bytes z.segment / page_bytes z.page) ≤ word_bits 0 3 entry
  pub stored : 8 * word_bits 8 28 entry + 2 * page + 2 ≤ length s
  pub stands : h ≡ half s (8 * word_bits 8 28 entry + 2 * page)
  pub valid : Valid z.page h

-- Some segment entry, page entry, frame field and byte index make the real address, and it is in main storage.
pub record Leads (s : List ℕ) (w : Controls) (a real : ℕ) : Type 0 where
  pub sizes : Sizes
  pub segment : ℕ
  pub page : ℕ
  pub byte : ℕ
  pub segment_entry : ℕ
  pub page_entry : ℕ
  pub names : Names w.cr0 sizes
  pub splits : Splits sizes a segment page byte
  pub from_segment : SegmentGives s w.cr1 segment segment_entry
  pub from_page : PageGives s sizes segment_entry page page_entry
  pub makes : real ≡ frame_field sizes.page page_entry * page_bytes sizes.page + byte
  pub stored : real < length s

-- The walk answers a real address exactly where there is one; it is then in main storage.
pub record Exact (s : List ℕ) (w : Controls) (a : ℕ) : Type 0 where
  pub found : (real : ℕ) → walk s w a ≡ Ok real → Leads s w a real
  pub finds : (real : ℕ) → Leads s w a real → walk s w a ≡ Ok real
  pub stored : (real : ℕ) → walk s w a ≡ Ok real → real < length s
