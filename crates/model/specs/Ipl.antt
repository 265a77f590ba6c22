-- IPL: its refusals, the tables that it writes, and the machine that it starts.
use Rattle.std.specs.Prelude.{ℕ, zero, suc, ◌+◌, ◌-◌, ◌*◌, ◌/◌, Bool, true, false, cond, ◌&&◌, List, [], ◌∷◌, length, replicate, Some, None, Ok, Err, Option, Result, ◌==◌, nat_le, nat_lt, option_map, slice_set}
use Rattle.std.specs.Option.{option_or}
use Rattle.frames.specs.Policy as policies
use Rattle.model.specs.declared.calls.IplRefusal.{IplRefusal}
use Rattle.model.specs.declared.calls.IplRefusal.TheVariants.{Sizes, Partitions, Slot}
use Rattle.model.specs.declared.shape.FrameRecord.{FrameRecord}
use Rattle.model.specs.declared.shape.Partition.{Partition}
use Rattle.model.specs.Layout.{controls_of, entry_at, key_of, segment_at, segment_entries, segment_word, segments, vacant}
use Rattle.model.specs.World.{Config, Parts, World}
use Rattle.pages.specs.declared.fault.Fault.{Fault}
use Rattle.pages.specs.Store as stores
use Rattle.storage.specs.Bytes.{put_half, put_word}

-- The number of each refusal of IPL.
abbrev pub ipl_number : IplRefusal → ℕ
ipl_number Sizes = 32
ipl_number Partitions = 33
ipl_number (Slot fault) = 34

-- 32: the numbers of frames, supervisor frames and pages fit each other and the length of main storage.
abbrev pub sizes_fit : Config → List ℕ → Bool
sizes_fit c s =
    nat_le 3 c.frames && (nat_le c.frames 256 && (nat_le 2 c.supervisor && (nat_lt c.supervisor c.frames
    && (nat_le (1 + (segments c + 31) / 32) c.supervisor && (nat_lt c.supervisor c.pages && (nat_le c.pages 8192
    && length s == 2048 * c.frames))))))

-- 33: partitions with pages and a key from 1 to 15, each after the one before, the first not under `from`, none past V.
abbrev pub in_order : ℕ → ℕ → List Partition → Bool
in_order from v [] = true
in_order from v (a ∷ rest) =
    nat_le 1 a.count && (nat_le 1 a.key && (nat_le a.key 15 && (nat_le from a.first && (nat_le (a.first + a.count) v && in_order (a.first + a.count) v rest))))

abbrev pub partitions_fit : Config → Bool
partitions_fit c = nat_le 1 (length c.partitions) && (nat_le (length c.partitions) 5 && in_order c.supervisor c.pages c.partitions)

-- 34: the fault of the first of n slots from k on that cannot be used.
abbrev pub slot_fault : {S : Type 0} → stores.Rules S → S → ℕ → Option Fault
slot_fault r m k = option_map (λ why. r.fault m why k) (stores.refusal_at r m k 2048)

unfoldable pub first_fault : {S : Type 0} → stores.Rules S → S → ℕ → ℕ → Option Fault
first_fault r m k zero = None
first_fault r m k (suc n) = option_or (slot_fault r m k) (first_fault r m (k + 1) n)

-- The entry that a page has after IPL.
abbrev pub partition_entry : Option ℕ → ℕ
partition_entry (Some key) = 0x0005 + 16 * key
partition_entry None = 0x8005

abbrev pub first_entry : Config → ℕ → ℕ
first_entry c p = cond (nat_lt p c.supervisor) (8 * p + 1) (partition_entry (key_of c.partitions p))

-- n segment entries from g on, and n page entries from p on, written.
unfoldable pub with_segments : Config → ℕ → ℕ → List ℕ → List ℕ
with_segments c g zero s = s
with_segments c g (suc n) s = with_segments c (g + 1) n (put_word s (segment_at g) (segment_word c g))

unfoldable pub with_entries : Config → ℕ → ℕ → List ℕ → List ℕ
with_entries c p zero s = s
with_entries c p (suc n) s = with_entries c (p + 1) n (put_half s (entry_at p) (first_entry c p))

-- Main storage with both tables.
abbrev pub with_tables : Config → List ℕ → List ℕ
with_tables c s = with_entries c 0 (32 * segments c) (with_segments c 0 (segment_entries c) s)

-- n records from f on that name their own frame.
unfoldable pub own_pages : ℕ → ℕ → List FrameRecord → List FrameRecord
own_pages f zero rs = rs
own_pages f (suc n) rs = own_pages (f + 1) n (slice_set rs f (record { page = f; fixes = 0 }))

-- n frames from f on returned to the policy, with both bits off.
unfoldable pub returned : {P : Type 0} → policies.Rules P → ℕ → ℕ → P → P
returned r f zero m = m
returned r f (suc n) m = returned r (f + 1) n (r.return_frame m f false false)

module _ {T P S : Type 0} (r : Parts T P S) where
  -- the machine that IPL starts
  abbrev pub fresh : Config → World T P S → World T P S
  fresh c w = record {
    config = c;
    storage = with_tables c w.storage;
    keys = replicate 256 0;
    records = own_pages 0 c.supervisor (replicate 256 vacant);
    translator = r.translator.load w.translator (with_tables c w.storage) (controls_of c);
    policy = returned r.policy c.supervisor (c.frames - c.supervisor) (r.policy.clear w.policy);
    store = w.store;
  }

  -- by the first slot that cannot be used
  abbrev pub start_by : Config → World T P S → Option Fault → Result (Unit {0}) IplRefusal × World T P S
  start_by c w (Some fault) = (Err (Slot fault), w)
  start_by c w None = (Ok tt, fresh c w)

  -- IPL: 32, 33, 34
  unfoldable pub ipl : Config → World T P S → Result (Unit {0}) IplRefusal × World T P S
  ipl c w =
      cond (sizes_fit c w.storage)
      (cond (partitions_fit c) (start_by c w (first_fault r.store w.store 0 (c.pages - c.supervisor))) (Err Partitions, w))
      (Err Sizes, w)
