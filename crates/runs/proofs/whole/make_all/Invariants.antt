use Rattle.std.proofs.Common.{◌+◌, ◌-◌, ◌≤◌, length, drop, vec_items, vec_len, vec_capacity}
use Rattle.machine.specs.Machine.{rules, world}
use Rattle.runs.proofs.Playing.{Left}
use Rattle.runs.proofs.whole.make_all.Given as goal

abbrev pub invariant-loop-call : goal.invariant-loop-call
invariant-loop-call g l = record {
  within : l.call-index ≤ length l.calls;
  room : vec_len l.answers + (length l.calls - l.call-index) ≤ vec_capacity l.answers;
  left :
      Left (rules g.T.Translator g.P.Policy g.S.PageStore) (drop l.call-index l.calls) l.calls
      (world g.T.Translator g.P.Policy g.S.PageStore l.machine l.storage) (world g.T.Translator g.P.Policy g.S.PageStore l.initial.machine l.initial.storage)
      (vec_items l.answers) (vec_items l.initial.answers);
}
