use Rattle.std.proofs.Common.{◌≡◌, ◌-◌, ◌++◌, drop}
use Rattle.model.specs.Ipl.{own_pages}
use Rattle.table.proofs.FrameTable.own_pages.Given as goal

-- the frames that are left give the answer
abbrev pub invariant-loop-f : goal.invariant-loop-f
invariant-loop-f l = own_pages l.f (l.count - l.f) (l.record-items ++ drop l.own l.fn.self) ≡ own_pages 0 l.count l.fn.self
