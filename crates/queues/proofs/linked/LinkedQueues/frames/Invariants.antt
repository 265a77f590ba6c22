use Rattle.std.proofs.Common.{◌≡◌, ◌-◌, ◌++◌, vec_items}
use Rattle.queues.specs.Links.{walk}
use Rattle.queues.proofs.linked.LinkedQueues.frames.Given as goal

-- what is listed, and what the links lead through yet
abbrev pub invariant-loop : goal.invariant-loop
invariant-loop l =
    vec_items l.list ++ walk (256 - l.counter) l.self-inside.next l.node ≡ vec_items l.initial.list ++ walk 256 l.self-inside.next l.initial.node
