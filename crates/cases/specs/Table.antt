-- The figures of the worked machine and of its nine cases. The machine of the rules shows them (Cases), and `nine_cases`
-- hands them to a program.
use Rattle.std.specs.Prelude.{ℕ, List, [], ◌∷◌, Ok, Err, Result}
use Rattle.model.specs.declared.calls.Call.{Call}
use Rattle.model.specs.declared.calls.Call.TheVariants.{Load, Store, Fix, Free}
use Rattle.model.specs.declared.calls.Refusal.{Refusal}
use Rattle.model.specs.declared.calls.Refusal.TheVariants.{Addressing, AllFixed, NotFixed, Protection}
use Rattle.model.specs.declared.calls.Reply.{Reply}
use Rattle.model.specs.declared.calls.Reply.TheVariants.{Byte, Done}
use Rattle.model.specs.declared.shape.Partition.{Partition}
use Rattle.model.specs.Layout.{no_page}
use Rattle.queues.specs.declared.queue.Queue.{Queue}
use Rattle.queues.specs.declared.queue.Queue.TheVariants.{Q00, Q01, Hq}
use Rattle.tables.specs.declared.Refusal as tables
use Rattle.tables.specs.declared.Refusal.TheVariants.{PageTranslation, SegmentTranslation, TranslationSpecification}
use Rattle.cases.specs.declared.table.Configuration.{Configuration}
use Rattle.cases.specs.declared.table.Held.{Held}
use Rattle.cases.specs.declared.table.Row.{Row}
use Rattle.cases.specs.declared.table.Step.{Step}
use Rattle.cases.specs.declared.table.Table.{Table}
use Rattle.cases.specs.declared.table.Walk.{Walk}

-- A partition: its first page, how many pages it has, its key.
abbrev pub partition : ℕ → ℕ → ℕ → Partition
partition first count key = record { first = first; count = count; key = key }

-- The data set has 31 slots, main storage 5 frames. IPL has 5 frames, 2 of them the supervisor's, and 33 pages; key 1 for
-- pages 8 to 31, key 2 for page 32.
abbrev pub configured : Configuration
configured = record { slots = 31; frames = 5; supervisor = 2; pages = 33; partitions = partition 8 24 1 ∷ partition 32 1 2 ∷ [] }

-- A frame that a queue holds.
abbrev pub on_queue : Queue → ℕ → Held
on_queue q f = record { queue = q; frame = f }

-- The pageable frames, of which a row tells.
abbrev pub pageable_frames : List ℕ
pageable_frames = 2 ∷ 3 ∷ 4 ∷ []

-- A row: the pages in the pageable frames, their storage keys, and the frames that the queues hold, queue by queue, each
-- from its head.
abbrev pub row_of : List ℕ → List ℕ → List Held → Row
row_of ps ks hs = record { pages = ps; keys = ks; held = hs }

-- A call, what it answers, and the row that is seen then.
abbrev pub step_of : Call → Result Reply Refusal → Row → Step
step_of c a r = record { call = c; answer = a; left = r }

-- All Loads have key 1.
abbrev pub load : ℕ → Call
load a = Load a 1

-- A walk: an address, and what it gives.
abbrev pub walk_of : ℕ → Result ℕ tables.Refusal → Walk
walk_of a r = record { address = a; answer = r }

-- A: three words of main storage, each with its place, and the row after IPL.
abbrev pub words_a : List (ℕ × ℕ)
words_a = (1024, 0xF0000800) ∷ (1028, 0xF0000840) ∷ (1032, 0x00000001) ∷ []

abbrev pub row_a : Row
row_a = row_of (no_page ∷ no_page ∷ no_page ∷ []) (0 ∷ 0 ∷ 0 ∷ []) (on_queue Q00 2 ∷ on_queue Q00 3 ∷ on_queue Q00 4 ∷ [])

-- B: the entries of four pages, each with its page.
abbrev pub entries_b : List (ℕ × ℕ)
entries_b = (1, 0x0009) ∷ (2, 0x8005) ∷ (8, 0x0015) ∷ (32, 0x0025) ∷ []

-- C: four walks with the machine's control words.
abbrev pub walks_c : List Walk
walks_c =
    walk_of 4095 (Ok 4095)
    ∷ walk_of 16384 (Err PageTranslation)
    ∷ walk_of 131072 (Err SegmentTranslation)
    ∷ walk_of 1048576 (Err SegmentTranslation)
    ∷ []

-- D: a walk, with each of two words in the place of control word 0.
abbrev pub walk_d : Walk
walk_d = walk_of 4095 (Err TranslationSpecification)

abbrev pub walks_d : List (ℕ × Walk)
walks_d = (0x00000000, walk_d) ∷ (0x00600000, walk_d) ∷ []

-- E: a Store brings page 8 into frame 2; then its entry.
abbrev pub steps_e : List Step
steps_e =
    step_of (Store 16384 1 7) (Ok Done) (row_of (8 ∷ no_page ∷ no_page ∷ []) (0x16 ∷ 0 ∷ 0 ∷ []) (on_queue Q00 3 ∷ on_queue Q00 4 ∷ on_queue Hq 2 ∷ []))
    ∷ []

abbrev pub entries_e : List (ℕ × ℕ)
entries_e = (8, 0x0011) ∷ []

-- F: three Loads, the last of which takes frame 3; then the entry of the page that was there.
abbrev pub steps_f : List Step
steps_f =
    step_of (load 18432) (Ok (Byte 0)) (row_of (8 ∷ 9 ∷ no_page ∷ []) (0x16 ∷ 0x14 ∷ 0 ∷ []) (on_queue Q00 4 ∷ on_queue Hq 2 ∷ on_queue Hq 3 ∷ []))
    ∷ step_of (load 20480) (Ok (Byte 0)) (row_of (8 ∷ 9 ∷ 10 ∷ []) (0x16 ∷ 0x14 ∷ 0x14 ∷ []) (on_queue Hq 2 ∷ on_queue Hq 3 ∷ on_queue Hq 4 ∷ []))
    ∷ step_of (load 22528) (Ok (Byte 0)) (row_of (8 ∷ 11 ∷ 10 ∷ []) (0x12 ∷ 0x14 ∷ 0x10 ∷ []) (on_queue Q00 4 ∷ on_queue Q01 2 ∷ on_queue Hq 3 ∷ []))
    ∷ []

abbrev pub entries_f : List (ℕ × ℕ)
entries_f = (9, 0x0015) ∷ []

-- G: two Loads, which take frame 4 and frame 2; then the slot that page 8 is put out to, with its first byte, and the
-- entry of page 8.
abbrev pub steps_g : List Step
steps_g =
    step_of (load 24576) (Ok (Byte 0)) (row_of (8 ∷ 11 ∷ 12 ∷ []) (0x12 ∷ 0x14 ∷ 0x14 ∷ []) (on_queue Q01 2 ∷ on_queue Hq 3 ∷ on_queue Hq 4 ∷ []))
    ∷ step_of (load 26624) (Ok (Byte 0)) (row_of (13 ∷ 11 ∷ 12 ∷ []) (0x14 ∷ 0x14 ∷ 0x14 ∷ []) (on_queue Hq 3 ∷ on_queue Hq 4 ∷ on_queue Hq 2 ∷ []))
    ∷ []

abbrev pub slot_g : ℕ × ℕ
slot_g = (6, 7)

abbrev pub entries_g : List (ℕ × ℕ)
entries_g = (8, 0x0014) ∷ []

-- H: a Load brings page 8 back; what is refused leaves the row as it was.
abbrev pub row_h : Row
row_h = row_of (13 ∷ 8 ∷ 12 ∷ []) (0x10 ∷ 0x14 ∷ 0x10 ∷ []) (on_queue Q00 4 ∷ on_queue Q00 2 ∷ on_queue Hq 3 ∷ [])

abbrev pub steps_h : List Step
steps_h =
    step_of (load 16384) (Ok (Byte 7)) row_h
    ∷ step_of (Store 16384 2 9) (Err Protection) row_h
    ∷ step_of (load 4095) (Err Protection) row_h
    ∷ step_of (load 4096) (Err Addressing) row_h
    ∷ step_of (load 131072) (Err Addressing) row_h
    ∷ []

-- I: calls after the same IPL anew, and what they answer.
abbrev pub calls_i : List Call
calls_i = Fix 8 ∷ Fix 9 ∷ Fix 10 ∷ load 22528 ∷ load 20480 ∷ Free 8 ∷ load 22528 ∷ Free 8 ∷ []

abbrev pub answers_i : List (Result Reply Refusal)
answers_i = Ok Done ∷ Ok Done ∷ Ok Done ∷ Err AllFixed ∷ Ok (Byte 0) ∷ Ok Done ∷ Ok (Byte 0) ∷ Err NotFixed ∷ []

-- The whole table.
abbrev pub all_nine : Table
all_nine = record {
  configuration = configured;
  pageable = pageable_frames;
  words = words_a;
  started = row_a;
  entries = entries_b;
  walks = walks_c;
  other_walks = walks_d;
  stores = steps_e;
  stored = entries_e;
  loads = steps_f;
  loaded = entries_f;
  more_loads = steps_g;
  slot = slot_g;
  put_out = entries_g;
  refusals = steps_h;
  fixes = calls_i;
  fixed = answers_i;
}
