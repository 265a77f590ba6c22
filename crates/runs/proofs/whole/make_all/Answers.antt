use Rattle.std.proofs.Common.{refl, arith}
use Rattle.machine.specs.Machine.{rules}
use Rattle.runs.proofs.Playing.{all_done, one_more}
use Rattle.runs.proofs.whole.make_all.Goals as goal

pub loop-call-init : goal.loop-call-init
loop-call-init g c = record { within = omega arith; room = omega arith; left = record { answers = refl; last = refl } }

pub push_reserved-requires : goal.push_reserved-requires
push_reserved-requires g c = omega (arith, c.loop-call.invariant.room)

pub loop-call-preserved : goal.loop-call-preserved
loop-call-preserved g c = record {
  within = omega arith;
  room = omega (arith, c.loop-call.invariant.room);
  left =
      one_more (rules g.T.Translator g.P.Policy g.S.PageStore) c.args.calls.now c.loop-call.call-index _ _ _ _ _ _ _ _
      c.loop-call-test.true c.make-answer.ensures.rule c.push_reserved.ensures.items c.loop-call.invariant.left;
}

pub returns : goal.returns
returns g c = all_done (rules g.T.Translator g.P.Policy g.S.PageStore) c.args.calls.now c.loop-call.call-index _ _ _ _ c.loop-call-test.false c.loop-call.invariant.left
