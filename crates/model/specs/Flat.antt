-- The flat machine: bytes and fix counts of the partition pages, fed the calls and their arguments alone.
use Rattle.std.specs.Prelude.{ℕ, ◌+◌, ◌-◌, ◌*◌, ◌/◌, Bool, cond, ◌&&◌, ◌||◌, ltb, List, [], ◌∷◌, replicate, Ok, Err, Result, ◌==◌, nat_le, nat_lt, slice_index, slice_set}
use Rattle.model.specs.declared.calls.Reply.{Reply}
use Rattle.model.specs.declared.calls.Reply.TheVariants.{Byte, Done}
use Rattle.model.specs.declared.calls.Call.{Call}
use Rattle.model.specs.declared.calls.Call.TheVariants.{Load, Store, Fix, Free, Purge, Settle}
use Rattle.model.specs.declared.calls.Refusal.{Refusal}
use Rattle.model.specs.declared.calls.Refusal.TheVariants.{Key, Protection, FixLimit, NotFixed, AllFixed}
use Rattle.model.specs.Layout.{counted}
use Rattle.model.specs.Refusals.{and_then, page_key, unless}
use Rattle.model.specs.World.{Config}

-- The sizes and partitions, the bytes of all virtual pages one after another, and how often each page is fixed.
pub record Flat : Type 0 where
  pub config : Config
  pub bytes : List ℕ
  pub fixes : List ℕ

-- At IPL every byte and every count is 0.
abbrev pub blank : Config → Flat
blank c = record { config = c; bytes = replicate (2048 * c.pages) 0; fixes = replicate c.pages 0 }

-- How many of n pages from p on are fixed.
abbrev pub fixed_pages : List ℕ → ℕ → ℕ → ℕ
fixed_pages fs p n = counted (λ q. ltb 0 (slice_index fs q)) p n

module _ (m : Flat) where
  -- every pageable frame has a fixed page, and this page is none of them
  abbrev pub flat_full : ℕ → Bool
  flat_full p =
      (fixed_pages m.fixes 0 m.config.pages == m.config.frames - m.config.supervisor) && slice_index m.fixes p == 0

  abbrev pub flat_room : ℕ → Result (Unit {0}) Refusal
  flat_room p = cond (flat_full p) (Err AllFixed) (Ok tt)

  -- the tests of each call
  unfoldable pub flat_load : ℕ → ℕ → Result (Unit {0}) Refusal
  flat_load a key =
      and_then (unless (nat_le key 15) Key) (λ _. and_then (page_key m.config (a / 2048)) (λ own. flat_room (a / 2048)))

  unfoldable pub flat_store : ℕ → ℕ → Result (Unit {0}) Refusal
  flat_store a key =
      and_then (unless (nat_le key 15) Key) (λ _.
      and_then (page_key m.config (a / 2048)) (λ own.
      and_then (unless (key == 0 || key == own) Protection) (λ _. flat_room (a / 2048))))

  unfoldable pub flat_fix : ℕ → Result (Unit {0}) Refusal
  flat_fix p =
      and_then (page_key m.config p) (λ own. and_then (unless (nat_lt (slice_index m.fixes p) 255) FixLimit) (λ _. flat_room p))

  unfoldable pub flat_free : ℕ → Result (Unit {0}) Refusal
  flat_free p = and_then (page_key m.config p) (λ own. unless (nat_lt 0 (slice_index m.fixes p)) NotFixed)

  abbrev pub byte_set : ℕ → ℕ → Flat
  byte_set a byte = record { config = m.config; bytes = slice_set m.bytes a byte; fixes = m.fixes }

  abbrev pub fixes_set : ℕ → ℕ → Flat
  fixes_set p n = record { config = m.config; bytes = m.bytes; fixes = slice_set m.fixes p n }

  -- each call, by its tests
  abbrev pub flat_loaded : ℕ → Result (Unit {0}) Refusal → Result Reply Refusal × Flat
  flat_loaded a (Ok _) = (Ok (Byte (slice_index m.bytes a)), m)
  flat_loaded a (Err why) = (Err why, m)

  abbrev pub flat_done : Flat → Result (Unit {0}) Refusal → Result Reply Refusal × Flat
  flat_done next (Ok _) = (Ok Done, next)
  flat_done next (Err why) = (Err why, m)

abbrev pub flat : Call → Flat → Result Reply Refusal × Flat
flat (Load a key) m = flat_loaded m a (flat_load m a key)
flat (Store a key byte) m = flat_done m (byte_set m a byte) (flat_store m a key)
flat (Fix p) m = flat_done m (fixes_set m p (slice_index m.fixes p + 1)) (flat_fix m p)
flat (Free p) m = flat_done m (fixes_set m p (slice_index m.fixes p - 1)) (flat_free m p)
flat Purge m = (Ok Done, m)
flat Settle m = (Ok Done, m)

-- The flat machine's answers to a list of calls.
abbrev pub flat_answers : List Call → Flat → List (Result Reply Refusal)
flat_answers [] m = []
flat_answers (c ∷ cs) m = (flat c m).0 ∷ flat_answers cs (flat c m).1
