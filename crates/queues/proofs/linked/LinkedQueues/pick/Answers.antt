use Rattle.queues.specs.Played.{loop_taken, loop_less, loop_again, loop_none}
use Rattle.queues.proofs.linked.LinkedQueues.pick.Goals as goal

pub returns-in-Some : goal.returns-in-Some
returns-in-Some c =
    let t = loop_taken c.args.self.now c.loop-self.self c.step.new.self c.args.keys.now c.loop-self.keys c.step.new.keys c.loop-self.invariant
    c.loop-self-test.ensures c.step.ensures.keys c.step.ensures.after c.in-Some.frame c.in-Some.ensures.answer in
    record { answer = t.0; keys = t.1; after = t.2 }

pub loop-self-smaller : goal.loop-self-smaller
loop-self-smaller c =
    loop_less c.args.self.now c.loop-self.self c.step.new.self c.args.keys.now c.loop-self.keys c.step.new.keys c.loop-self.invariant
    c.loop-self-test.ensures c.step.ensures.keys c.step.ensures.after c.in_default.ensures.answer

pub loop-self-preserved : goal.loop-self-preserved
loop-self-preserved c =
    loop_again c.args.self.now c.loop-self.self c.step.new.self c.args.keys.now c.loop-self.keys c.step.new.keys c.loop-self.invariant
    c.loop-self-test.ensures c.step.ensures.keys c.step.ensures.after c.in_default.ensures.answer

pub returns : goal.returns
returns c =
    let t = loop_none c.args.self.now c.loop-self.self c.loop-self.self c.args.keys.now c.loop-self.keys c.loop-self.keys c.loop-self.invariant c.loop-self-test.ensures in
    record { answer = t.0; keys = t.1; after = t.2 }
