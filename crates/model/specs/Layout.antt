-- The tables that IPL makes, and what each of their entries should be.
use Rattle.std.specs.Prelude.{ℕ, zero, suc, ◌+◌, ◌-◌, ◌*◌, ◌/◌, ◌%◌, Bool, true, cond, ◌&&◌, ltb, List, [], ◌∷◌, Some, None, Option, ◌==◌, nat_le, nat_lt, slice_index_or}
use Rattle.model.specs.World.{Config}
use Rattle.model.specs.declared.shape.FrameRecord.{FrameRecord}
use Rattle.model.specs.declared.shape.Partition.{Partition}
use Rattle.storage.specs.Bytes.{half, word}
use Rattle.tables.specs.declared.Controls.{Controls}

-- How many segments of 32 pages the virtual pages take.
abbrev pub segments : Config → ℕ
segments c = (c.pages + 31) / 32

-- How many entries the segment table has: 16 or a multiple of it.
abbrev pub segment_entries : Config → ℕ
segment_entries c = 16 * ((segments c + 15) / 16)

-- Where the entry of a segment stands, and that of a page.
abbrev pub segment_at : ℕ → ℕ
segment_at s = 1024 + 4 * s

abbrev pub entry_at : ℕ → ℕ
entry_at p = 2048 + 2 * p

-- The control words.
abbrev pub controls_of : Config → Controls
controls_of c = record { cr0 = 0x00400000; cr1 = 0x01000000 * ((segments c - 1) / 16) + 1024 }

-- The entry of a segment: its page table, or an invalid entry past the last segment.
abbrev pub segment_word : Config → ℕ → ℕ
segment_word c s = cond (nat_lt s (segments c)) (0xF0000800 + 64 * s) 1

-- The access key of the partition that a page is in.
abbrev pub key_of : List Partition → ℕ → Option ℕ
key_of [] p = None
key_of (a ∷ rest) p = cond (nat_le a.first p && nat_lt p (a.first + a.count)) (Some a.key) (key_of rest p)

-- X'FFFF', the page number of a frame that has none.
abbrev pub no_page : ℕ
no_page = 65535

abbrev pub vacant : FrameRecord
vacant = record { page = no_page; fixes = 0 }

-- The page and the fix count of a frame.
abbrev pub page_in : List FrameRecord → ℕ → ℕ
page_in rs f = (slice_index_or rs f vacant).page

abbrev pub fixes_in : List FrameRecord → ℕ → ℕ
fixes_in rs f = (slice_index_or rs f vacant).fixes

-- The first frame of n from f on that has page p.
unfoldable pub found_in : List FrameRecord → ℕ → ℕ → ℕ → Option ℕ
found_in rs p f zero = None
found_in rs p f (suc n) = cond (page_in rs f == p) (Some f) (found_in rs p (f + 1) n)

-- The frame that the entry of a page names.
abbrev pub named : List ℕ → ℕ → ℕ
named s p = half s (entry_at p) / 8

-- The frame that has a page: the one that its entry names, where the frame's record names the page back; else by a search.
abbrev pub frame_of : Config → List ℕ → List FrameRecord → ℕ → Option ℕ
frame_of c s rs p =
    cond (nat_le c.supervisor (named s p) && (nat_lt (named s p) c.frames && page_in rs (named s p) == p)) (Some (named s p))
    (found_in rs p c.supervisor (c.frames - c.supervisor))

-- The entry of a partition page, bit 15 off: its frame, or invalid with its access key.
abbrev pub entry_for : ℕ → Option ℕ → ℕ
entry_for key (Some f) = 8 * f
entry_for key None = 4 + 16 * key

-- Bit 15 of the entry of a page.
abbrev pub bit15 : List ℕ → ℕ → ℕ
bit15 s p = half s (entry_at p) % 2

-- The entry of a page is this one, bit 15 aside; and so is the entry of its segment.
abbrev pub entry_is : List ℕ → ℕ → ℕ → Bool
entry_is s p e = half s (entry_at p) / 2 == e / 2

abbrev pub segment_is : Config → List ℕ → ℕ → Bool
segment_is c s p = word s (segment_at (p / 32)) == segment_word c (p / 32)

abbrev pub page_is : Config → List ℕ → ℕ → ℕ → Bool
page_is c s p e = segment_is c s p && entry_is s p e

-- The entries of the page that frame f has, if it has one.
abbrev pub frame_is : Config → List ℕ → List FrameRecord → ℕ → Bool
frame_is c s rs f = cond (page_in rs f == no_page) true (page_is c s (page_in rs f) (8 * f))

-- The same for n frames from f on.
unfoldable pub frames_are : Config → List ℕ → List FrameRecord → ℕ → ℕ → Bool
frames_are c s rs f zero = true
frames_are c s rs f (suc n) = frame_is c s rs f && frames_are c s rs (f + 1) n

-- The entry that a page should have, bit 15 aside.
abbrev pub out_entry : Config → List ℕ → List FrameRecord → ℕ → Option ℕ → ℕ
out_entry c s rs p None = 0x8005
out_entry c s rs p (Some key) = entry_for key (frame_of c s rs p)

abbrev pub entry_should : Config → List ℕ → List FrameRecord → ℕ → ℕ
entry_should c s rs p = cond (nat_lt p c.supervisor) (8 * p + 1) (out_entry c s rs p (key_of c.partitions p))

-- n segment entries from g on, and n page entries from p on, are what they should be.
unfoldable pub segments_are : Config → List ℕ → ℕ → ℕ → Bool
segments_are c s g zero = true
segments_are c s g (suc n) = word s (segment_at g) == segment_word c g && segments_are c s (g + 1) n

unfoldable pub entries_are : Config → List ℕ → List FrameRecord → ℕ → ℕ → Bool
entries_are c s rs p zero = true
entries_are c s rs p (suc n) = entry_is s p (entry_should c s rs p) && entries_are c s rs (p + 1) n

-- How many of n numbers from f on pass a test.
unfoldable pub counted : (ℕ → Bool) → ℕ → ℕ → ℕ
counted test f zero = 0
counted test f (suc n) = cond (test f) 1 0 + counted test (f + 1) n

-- How many of n frames from f on have a fixed page.
abbrev pub fixed_in : List FrameRecord → ℕ → ℕ → ℕ
fixed_in rs f n = counted (λ g. ltb 0 (fixes_in rs g)) f n
