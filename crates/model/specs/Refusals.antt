-- The refusals of the six calls, each in the table's order, before anything is changed.
use Rattle.std.specs.Prelude.{ℕ, ◌-◌, ◌*◌, ◌/◌, Bool, true, false, cond, ◌&&◌, ◌||◌, List, length, Some, None, Ok, Err, Option, Result, ◌==◌, nat_le, nat_lt, ok_or}
use Rattle.model.specs.declared.calls.Refusal.{Refusal}
use Rattle.model.specs.declared.calls.Refusal.TheVariants.{Sizes, Key, Addressing, Protection, FixLimit, NotFixed, AllFixed, Tables}
use Rattle.model.specs.declared.shape.FrameRecord.{FrameRecord}
use Rattle.model.specs.declared.shape.Request.{Request}
use Rattle.model.specs.Layout.{entries_are, entry_for, fixed_in, fixes_in, frame_of, frames_are, key_of, page_is, segment_entries, segments, segments_are}
use Rattle.model.specs.World.{Config, World}

-- The number of each refusal.
abbrev pub number_of : Refusal → ℕ
number_of Sizes = 32
number_of Key = 36
number_of Addressing = 5
number_of Protection = 4
number_of FixLimit = 37
number_of NotFixed = 38
number_of AllFixed = 35
number_of Tables = 54

-- One test after another; the first refusal ends them.
abbrev pub and_then : {A B : Type 0} → Result A Refusal → (A → Result B Refusal) → Result B Refusal
and_then (Ok x) next = next x
and_then (Err why) next = Err why

-- A test: done where it holds, else this refusal.
abbrev pub unless : Bool → Refusal → Result (Unit {0}) Refusal
unless true why = Ok tt
unless false why = Err why

-- The access key of a partition page; 5 for a page past the last or of no partition, 4 for a page of the supervisor.
abbrev pub page_key : Config → ℕ → Result ℕ Refusal
page_key c p =
    cond (nat_lt p c.pages) (cond (nat_lt p c.supervisor) (Err Protection) (ok_or (key_of c.partitions p) Addressing)) (Err Addressing)

-- The fix count of the page that a frame has; 0 of a page without one.
abbrev pub fixes_of : List FrameRecord → Option ℕ → ℕ
fixes_of rs (Some f) = fixes_in rs f
fixes_of rs None = 0

module _ {T P S : Type 0} (w : World T P S) where
  abbrev pub right_length : Bool
  right_length = length w.storage == 2048 * w.config.frames

  -- whether every pageable frame has a fixed page and this page is none of them
  abbrev pub full : Option ℕ → Bool
  full o =
      (fixed_in w.records w.config.supervisor (w.config.frames - w.config.supervisor) == w.config.frames - w.config.supervisor)
      && fixes_of w.records o == 0

  -- where a page has no frame, the entries of every page that has one are looked at too
  abbrev pub others_right : Option ℕ → Bool
  others_right (Some f) = true
  others_right None = frames_are w.config w.storage w.records w.config.supervisor (w.config.frames - w.config.supervisor)

  abbrev pub tables_right : ℕ → ℕ → Option ℕ → Bool
  tables_right p key o = page_is w.config w.storage p (entry_for key o) && others_right o

  -- 35, then 54
  abbrev pub room_and_tables : ℕ → ℕ → Option ℕ → Result Request Refusal
  room_and_tables p key o =
      cond (full o) (Err AllFixed) (cond (tables_right p key o) (Ok (record { page = p; key = key; frame = o })) (Err Tables))

  abbrev pub where_is : ℕ → Option ℕ
  where_is p = frame_of w.config w.storage w.records p

  -- Load: 32, 36, 5, 4, 35, 54
  unfoldable pub decode_load : ℕ → ℕ → Result Request Refusal
  decode_load a key =
      and_then (unless right_length Sizes) (λ _.
      and_then (unless (nat_le key 15) Key) (λ _.
      and_then (page_key w.config (a / 2048)) (λ own. room_and_tables (a / 2048) own (where_is (a / 2048)))))

  -- Store: the same, with 4 for a key that is neither 0 nor the page's
  unfoldable pub decode_store : ℕ → ℕ → Result Request Refusal
  decode_store a key =
      and_then (unless right_length Sizes) (λ _.
      and_then (unless (nat_le key 15) Key) (λ _.
      and_then (page_key w.config (a / 2048)) (λ own.
      and_then (unless (key == 0 || key == own) Protection) (λ _. room_and_tables (a / 2048) own (where_is (a / 2048))))))

  -- Fix: 32, 5, 4, 37, 35, 54
  unfoldable pub decode_fix : ℕ → Result Request Refusal
  decode_fix p =
      and_then (unless right_length Sizes) (λ _.
      and_then (page_key w.config p) (λ own.
      and_then (unless (nat_lt (fixes_of w.records (where_is p)) 255) FixLimit) (λ _. room_and_tables p own (where_is p))))

  -- Free: 32, 5, 4, 38, 54
  unfoldable pub decode_free : ℕ → Result Request Refusal
  decode_free p =
      and_then (unless right_length Sizes) (λ _.
      and_then (page_key w.config p) (λ own.
      and_then (unless (nat_lt 0 (fixes_of w.records (where_is p))) NotFixed) (λ _.
      cond (tables_right p own (where_is p)) (Ok (record { page = p; key = own; frame = where_is p })) (Err Tables))))

  -- Purge: 32, 54 for any entry of either table
  unfoldable pub decode_purge : Result (Unit {0}) Refusal
  decode_purge =
      and_then (unless right_length Sizes) (λ _.
      unless (segments_are w.config w.storage 0 (segment_entries w.config)
      && entries_are w.config w.storage w.records 0 (32 * segments w.config)) Tables)

  -- Settle: 32, 54 for any page that a frame has
  unfoldable pub decode_settle : Result (Unit {0}) Refusal
  decode_settle =
      and_then (unless right_length Sizes) (λ _.
      unless (frames_are w.config w.storage w.records w.config.supervisor (w.config.frames - w.config.supervisor)) Tables)
