use Rattle.std.proofs.Common.{◌≡◌, ◌-◌}
use Rattle.model.specs.Ipl.{with_segments}
use Rattle.model.specs.Layout.{segment_entries}
use Rattle.layout.proofs.layout.Layout.write_segments.Given as goal

abbrev pub invariant-loop-segment : goal.invariant-loop-segment
invariant-loop-segment l =
    with_segments l.self l.segment (l.count - l.segment) l.storage ≡ with_segments l.self 0 (segment_entries l.self) l.initial.storage
