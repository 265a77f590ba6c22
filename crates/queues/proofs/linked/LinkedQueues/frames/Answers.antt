use Rattle.std.proofs.Common.{ℕ, ◌+◌, ◌%◌, ◌-◌, ◌≤◌, ◌≡◌, ◌++◌, [], ◌∷◌, List, get_or, vec_items, subst, ap, ◌∙◌, arith, rules}
use Rattle.queues.specs.declared.queue.Queue.{Queue}
use Rattle.queues.specs.Five.{Five}
use Rattle.queues.specs.Links.{walk, list_of}
use Rattle.queues.specs.Names.{number_of, named, frames_of}
use Rattle.queues.specs.Operations.{listed_more, listed_all, listed_over, listed_none}
use Rattle.queues.proofs.linked.LinkedQueues.frames.Goals as goal

-- what the loop begins with is the queue
start : (next : List ℕ) (first number node : ℕ) (queue : Queue) (done : List ℕ) (m : Five) → done ≡ [] → number ≡ (first + number_of queue) % 5 → node ≡ get_or next (256 + number) 0
    → named (list_of next) first ≡ m → done ++ walk 256 next node ≡ frames_of m queue
start next first number node queue done m e n is view =
    listed_none next first node queue done e (is ∙ ap (λ k. get_or next (256 + k) 0) n) ∙ ap (λ x. frames_of x queue) view

pub returns-in_default : goal.returns-in_default
returns-in_default c =
    let s = c.self.inside in
    let past : 256 ≤ c.loop.node = omega (arith, c.in_default.ensures) in
    listed_all s.next c.loop.node (vec_items c.loop.list) (frames_of c.args.self.now c.args.queue) (256 - c.loop.counter) past
    (c.loop.invariant ∙ start s.next s.first c.number.result c.follow-node.result c.args.queue (vec_items c.new-list.result) c.args.self.now c.new-list.ensures.items c.number.ensures c.follow-node.ensures c.self.view_is)

pub loop-preserved : goal.loop-preserved
loop-preserved c =
    let s = c.self.inside in
    let grown : vec_items c.push.new.self ≡ vec_items c.loop.list ++ (c.loop.node ∷ []) = search rules in
    let all = vec_items c.new-list.result ++ walk 256 s.next c.follow-node.result in
    let one : 256 - c.loop.counter - 1 ≡ 256 - (c.loop.counter + 1) = omega arith in
    subst (λ n. vec_items c.push.new.self ++ walk n s.next c.follow-node-in-loop.result ≡ all) one
    (listed_more s.next c.loop.node (vec_items c.loop.list) all (256 - c.loop.counter) c.follow-node-in-loop.result (vec_items c.push.new.self)
    (omega arith) c.in-Ok.ensures.0 c.follow-node-in-loop.ensures grown c.loop.invariant)

pub returns : goal.returns
returns c =
    let s = c.self.inside in
    listed_over s.next c.loop.node (vec_items c.loop.list) (frames_of c.args.self.now c.args.queue) (256 - c.loop.counter) (omega arith)
    (c.loop.invariant ∙ start s.next s.first c.number.result c.follow-node.result c.args.queue (vec_items c.new-list.result) c.args.self.now c.new-list.ensures.items c.number.ensures c.follow-node.ensures c.self.view_is)
