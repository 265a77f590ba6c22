use Rattle.std.proofs.Common.{◌≡◌, ◌≤◌, ◌++◌, length, drop, vec_items}
use Rattle.frames.specs.Runs.{run}
use Rattle.frames.proofs.runs.play.Given as goal

-- the answers so far, with those of the calls to come, are all; and the calls to come leave what all leave
abbrev pub invariant-loop-call : goal.invariant-loop-call
invariant-loop-call g l =
    (l.call-index ≤ length l.calls)
    × (vec_items l.answers ++ (run g.P.Policy.rules (drop l.call-index l.calls) (g.P.Policy.model l.policy) l.keys).answers
    ≡ (run g.P.Policy.rules l.calls (g.P.Policy.model l.initial.policy) l.initial.keys).answers)
    × ((run g.P.Policy.rules (drop l.call-index l.calls) (g.P.Policy.model l.policy) l.keys).left
    ≡ (run g.P.Policy.rules l.calls (g.P.Policy.model l.initial.policy) l.initial.keys).left)
