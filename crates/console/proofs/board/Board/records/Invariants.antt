use Rattle.std.proofs.Common.{◌≡◌, ◌≤◌}
use Rattle.console.specs.Boards.{records_below}
use Rattle.console.proofs.board.Board.records.Given as goal

abbrev pub invariant-loop-frame : goal.invariant-loop-frame
invariant-loop-frame g l = record {
  so_far : l.records.items ≡ records_below l.self.machine.own.state.records l.frame;
  few : l.past ≤ 256;
}
