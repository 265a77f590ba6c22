-- The walk of the tables in its ten steps. The first refusal ends it.
use Rattle.std.specs.Prelude.{ℕ, ◌+◌, ◌*◌, ◌/◌, ◌%◌, Bool, cond, ◌&&◌, List, length, Some, None, Ok, Err, Option, Result, ◌==◌, nat_lt}
use Rattle.storage.specs.Bytes.{half_at, word_at}
use Rattle.tables.specs.Bits.{half_bits, word_bits}
use Rattle.tables.specs.declared.Controls.{Controls}
use Rattle.tables.specs.declared.PageSize.{PageSize}
use Rattle.tables.specs.declared.PageSize.TheVariants.{Bytes2048, Bytes4096}
use Rattle.tables.specs.declared.Refusal.{Refusal}
use Rattle.tables.specs.declared.Refusal.TheVariants.{Addressing, SegmentTranslation, PageTranslation, TranslationSpecification}
use Rattle.tables.specs.declared.SegmentSize.{SegmentSize}
use Rattle.tables.specs.declared.SegmentSize.TheVariants.{Bytes65536, Bytes1048576}
use Rattle.tables.specs.declared.Sizes.{Sizes}

-- The number of each refusal.
abbrev pub number_of : Refusal → ℕ
number_of Addressing = 5
number_of SegmentTranslation = 16
number_of PageTranslation = 17
number_of TranslationSpecification = 18

-- A step's answer handed to the next step; a refusal ends the walk.
abbrev pub and_then : {A B : Type 0} → Result A Refusal → (A → Result B Refusal) → Result B Refusal
and_then (Ok x) next = next x
and_then (Err why) next = Err why

-- A value that is there, or a refusal.
abbrev pub or_refuse : {A : Type 0} → Option A → Refusal → Result A Refusal
or_refuse (Some x) why = Ok x
or_refuse None why = Err why

abbrev pub page_bytes : PageSize → ℕ
page_bytes Bytes2048 = 2048
page_bytes Bytes4096 = 4096

abbrev pub segment_bytes : SegmentSize → ℕ
segment_bytes Bytes65536 = 65536
segment_bytes Bytes1048576 = 1048576

-- Bits 8 and 9 of control word 0.
abbrev pub page_size_of : ℕ → Option PageSize
page_size_of n = cond (n == 1) (Some Bytes2048) (cond (n == 2) (Some Bytes4096) None)

-- Bits 11 and 12 of control word 0.
abbrev pub segment_size_of : ℕ → Option SegmentSize
segment_size_of n = cond (n == 0) (Some Bytes65536) (cond (n == 2) (Some Bytes1048576) None)

abbrev pub both_sizes : Option PageSize → Option SegmentSize → Option Sizes
both_sizes (Some p) (Some s) = Some (record { page = p; segment = s })
both_sizes (Some p) None = None
both_sizes None (Some s) = None
both_sizes None None = None

-- The sizes that control word 0 names; bit 10 must be off.
abbrev pub sizes_of : ℕ → Option Sizes
sizes_of cr0 =
    cond (word_bits 10 10 cr0 == 0) (both_sizes (page_size_of (word_bits 8 9 cr0)) (segment_size_of (word_bits 11 12 cr0))) None

-- Steps 1 and 2: the address has 24 bits, and control word 0 names the sizes.
unfoldable pub checked : Controls → ℕ → Result Sizes Refusal
checked w a = cond (nat_lt a 16777216) (or_refuse (sizes_of w.cr0) TranslationSpecification) (Err Addressing)

-- Step 3: the three parts of the address.
abbrev pub segment_index : Sizes → ℕ → ℕ
segment_index z a = a / segment_bytes z.segment

abbrev pub page_index : Sizes → ℕ → ℕ
page_index z a = a % segment_bytes z.segment / page_bytes z.page

abbrev pub byte_index : Sizes → ℕ → ℕ
byte_index z a = a % segment_bytes z.segment % page_bytes z.page

-- The page that an address is in, counted from address 0.
abbrev pub page_number : Sizes → ℕ → ℕ
page_number z a = a / page_bytes z.page

-- How many pages a segment has.
abbrev pub pages_in : Sizes → ℕ
pages_in z = segment_bytes z.segment / page_bytes z.page

-- Bits 4 to 7, 29 and 30 of a segment entry are off.
abbrev pub reserved_off : ℕ → Bool
reserved_off e =
    (word_bits 4 4 e == 0) && (word_bits 5 5 e == 0 && (word_bits 6 6 e == 0 && (word_bits 7 7 e == 0
    && (word_bits 29 29 e == 0 && word_bits 30 30 e == 0))))

-- Step 6: a segment entry that was read.
abbrev pub sound_segment : ℕ → Result ℕ Refusal
sound_segment e =
    cond (reserved_off e) (cond (word_bits 31 31 e == 0) (Ok e) (Err SegmentTranslation)) (Err TranslationSpecification)

-- Steps 4 to 6: the segment entry of a segment.
abbrev pub segment_entry : List ℕ → Controls → ℕ → Result ℕ Refusal
segment_entry s w segment =
    cond (nat_lt (word_bits 0 7 w.cr1) (segment / 16)) (Err SegmentTranslation)
    (and_then (or_refuse (word_at s (64 * word_bits 8 25 w.cr1 + 4 * segment)) Addressing) sound_segment)

-- Bit 14 of a page entry is off, and with pages of 4,096 bytes bit 13 too.
abbrev pub sound_page : PageSize → ℕ → Bool
sound_page Bytes2048 h = half_bits 14 14 h == 0
sound_page Bytes4096 h = half_bits 14 14 h == 0 && half_bits 13 13 h == 0

-- The invalid bit of a page entry.
abbrev pub invalid : PageSize → ℕ → ℕ
invalid Bytes2048 h = half_bits 13 13 h
invalid Bytes4096 h = half_bits 12 12 h

-- The bits left of the invalid bit: the frame field.
abbrev pub frame_field : PageSize → ℕ → ℕ
frame_field Bytes2048 h = half_bits 0 12 h
frame_field Bytes4096 h = half_bits 0 11 h

-- Step 9: a page entry that was read.
abbrev pub valid_page : PageSize → ℕ → Result ℕ Refusal
valid_page p h = cond (sound_page p h) (cond (invalid p h == 0) (Ok h) (Err PageTranslation)) (Err TranslationSpecification)

-- Steps 7 to 9: the page entry of a page, in the page table that a segment entry names.
abbrev pub page_entry : List ℕ → Sizes → ℕ → ℕ → Result ℕ Refusal
page_entry s z e page =
    cond (nat_lt (word_bits 0 3 e) (page * 16 / pages_in z)) (Err PageTranslation)
    (and_then (or_refuse (half_at s (8 * word_bits 8 28 e + 2 * page)) Addressing) (valid_page z.page))

-- Steps 4 to 9: where the frame of a page starts.
abbrev pub frame_start : List ℕ → Controls → Sizes → ℕ → ℕ → Result ℕ Refusal
frame_start s w z segment page =
    and_then (segment_entry s w segment) (λ e.
    and_then (page_entry s z e page) (λ h. Ok (frame_field z.page h * page_bytes z.page)))

-- Step 10: the real address is in main storage.
abbrev pub located : List ℕ → ℕ → ℕ → Result ℕ Refusal
located s start byte = cond (nat_lt (start + byte) (length s)) (Ok (start + byte)) (Err Addressing)

-- The walk.
unfoldable pub walk : List ℕ → Controls → ℕ → Result ℕ Refusal
walk s w a =
    and_then (checked w a) (λ z.
    and_then (frame_start s w z (segment_index z a) (page_index z a)) (λ start. located s start (byte_index z a)))
