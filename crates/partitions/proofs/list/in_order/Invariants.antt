use Rattle.std.proofs.Common.{◌≡◌, ◌≤◌, length, drop}
use Rattle.model.specs.Ipl.{in_order}
use Rattle.partitions.proofs.list.in_order.Given as goal

abbrev pub invariant-loop-partition : goal.invariant-loop-partition
invariant-loop-partition l = (l.partition-index ≤ length l.list) × (in_order l.low l.pages (drop l.partition-index l.list) ≡ in_order l.from l.pages l.list)
