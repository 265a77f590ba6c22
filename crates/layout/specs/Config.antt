-- What IPL is given, what its tests of it give, and the bounds that they leave.
use Rattle.std.specs.Prelude.{◌≡◌, ℕ, ◌+◌, ◌/◌, ◌≤◌, Bool, cond, ◌&&◌, List, Some, Ok, Err, Result, nat_le, nat_lt}
use Rattle.model.specs.declared.calls.IplRefusal.{IplRefusal}
use Rattle.model.specs.declared.calls.IplRefusal.TheVariants.{Sizes, Partitions}
use Rattle.model.specs.declared.shape.Partition.{Partition}
use Rattle.model.specs.Ipl.{partitions_fit, sizes_fit}
use Rattle.model.specs.Layout.{key_of}
use Rattle.model.specs.World.{Config}
use Rattle.layout.specs.declared.check.Sizes as sizes

-- What IPL is given: the sizes, and the list of the partitions.
abbrev pub config_with : sizes.Sizes → List Partition → Config
config_with s list = record { frames = s.frames; supervisor = s.supervisor; pages = s.pages; partitions = list }

-- 32, then 33.
abbrev pub checked_as : Config → List ℕ → Result Config IplRefusal
checked_as c s = cond (sizes_fit c s) (cond (partitions_fit c) (Ok c) (Err Partitions)) (Err Sizes)

-- The parts of 32: the numbers of frames, and the number of pages.
abbrev pub frames_fit : ℕ → ℕ → Bool
frames_fit n k = nat_le 3 n && (nat_le n 256 && (nat_le 2 k && nat_lt k n))

abbrev pub pages_fit : ℕ → ℕ → Bool
pages_fit k v = nat_le (1 + ((v + 31) / 32 + 31) / 32) k && (nat_lt k v && nat_le v 8192)

-- The bounds of what a machine has, before IPL and after it.
pub record IsBounded (c : Config) : Type 0 where
  pub few : c.frames ≤ 256
  pub within : c.supervisor ≤ c.frames
  pub below : c.supervisor ≤ 255
  pub most : c.pages ≤ 8192
  pub low : (p key : ℕ) → key_of c.partitions p ≡ Some key → key ≤ 15
