use Rattle.std.proofs.Common.{◌≡◌, ◌≤◌, length}
use Rattle.translation.specs.Layers.{without}
use Rattle.translation.proofs.tlb.calls.drop_pairs.Given as goal

abbrev pub invariant-loop-place : goal.invariant-loop-place
invariant-loop-place l = record {
  fewer : length l.pairs ≤ length l.initial.pairs;
  others : without l.page l.pairs ≡ without l.page l.initial.pairs;
}

abbrev pub decreases-loop-place : goal.decreases-loop-place
decreases-loop-place l = length l.pairs
