use Rattle.std.proofs.Common.{◌≡◌, ◌+◌, ◌-◌, ◌≤◌, [], length, take, drop, vec_items, vec_len, vec_capacity}
use Rattle.machine.specs.Machine.{rules, world}
use Rattle.runs.proofs.Handing.{Left}
use Rattle.runs.specs.Disturbed.{handing, storages_of}
use Rattle.runs.proofs.disturbed.hand_all.Given as goal

abbrev pub invariant-loop-handed : goal.invariant-loop-handed
invariant-loop-handed g l = record {
  within : l.handed-index ≤ length l.calls;
  room : vec_len l.answers + (length l.calls - l.handed-index) ≤ vec_capacity l.answers;
  behind : drop l.handed-index l.calls ≡ drop l.handed-index l.initial.calls;
  left :
      Left (rules g.T.Translator g.P.Policy g.S.PageStore) (handing (drop l.handed-index l.initial.calls)) (handing l.initial.calls)
      (world g.T.Translator g.P.Policy g.S.PageStore l.machine []) (world g.T.Translator g.P.Policy g.S.PageStore l.initial.machine [])
      (vec_items l.answers) (vec_items l.initial.answers) (storages_of (take l.handed-index l.calls));
}
