use Rattle.std.proofs.Common.{◌≡◌, ◌<◌, [], length, get_or, vec_items, refl, ap, ◌∙◌, arith, length-set}
use Rattle.machine.specs.Machine.{rules, world}
use Rattle.model.specs.Steps.{worked}
use Rattle.runs.specs.declared.handed.Handed.{Handed}
use Rattle.runs.proofs.Handing.{all_done, behind, here, longer, new, one_more}
use Rattle.runs.proofs.disturbed.hand_all.Goals as goal

pub loop-handed-init : goal.loop-handed-init
loop-handed-init g c = record {
  within = omega arith;
  room = omega arith;
  behind = refl;
  left = record { answers = refl; storages = refl; last = λ s. refl };
}

pub push_reserved-requires : goal.push_reserved-requires
push_reserved-requires g c = omega (arith, c.loop-handed.invariant.room)

pub loop-handed-preserved : goal.loop-handed-preserved
loop-handed-preserved g c =
    let r = rules g.T.Translator g.P.Policy g.S.PageStore in
    let i = c.loop-handed.handed-index in
    let d = c.handed-item.result in
    let calls = c.loop-handed.calls in
    let same = c.loop-handed.invariant.behind in
    let there : i < length calls = (let k = c.loop-handed.auto.calls in let t = c.loop-handed-test.true in omega arith) in
    let left = c.make-answer.new.storage in
    let long : length left ≡ (get_or calls i d).storage.len = c.make-answer.auto.storage ∙ c.deref_mut.ensures.len in
    let at = world g.T.Translator g.P.Policy g.S.PageStore c.loop-handed.machine in
    let step = c.make-answer.ensures.rule ∙ ap (λ s. worked r (get_or calls i d).call (at s)) c.deref_mut.ensures.value
    ∙ ap (λ (x : Handed). worked r x.call (at (vec_items x.storage))) (here calls c.args.calls.now i d left there same) in
    let count = length-set calls i (new calls c.args.calls.now i d left there same) in
    record {
      within = omega arith;
      room = omega (arith, c.loop-handed.invariant.room);
      behind = behind calls c.args.calls.now i d left there same;
      left =
          one_more r c.args.calls.now i d (let k = c.loop-handed.auto.calls in omega arith) (at []) (world g.T.Translator g.P.Policy g.S.PageStore c.make-answer.new.machine left) _ c.make-answer.result step
          _ _ _ _ _ _ c.push_reserved.ensures.items (longer calls c.args.calls.now i d left there same long) c.loop-handed.invariant.left;
    }

pub returns : goal.returns
returns g c =
    all_done (rules g.T.Translator g.P.Policy g.S.PageStore) c.args.calls.now c.loop-handed.calls c.loop-handed.handed-index
    (world g.T.Translator g.P.Policy g.S.PageStore c.loop-handed.machine []) _ _ _ (omega arith) (omega arith) c.loop-handed.invariant.left
