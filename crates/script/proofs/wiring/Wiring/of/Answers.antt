use Rattle.std.proofs.Common.{codes}
use Rattle.script.specs.Wirings.{IsHeld, Spells, wire_names, WritesSlots}
use Rattle.script.specs.Words.{kind_word, policy_word, translator_word}
use Rattle.script.proofs.Named.{at_most_once_more, named_more}
use Rattle.script.proofs.WordFaulty.{source_faulty, wiring_faulty}
use Rattle.script.proofs.wiring.Wiring.of.Goals as goal

pub loop-word-preserved : goal.loop-word-preserved
loop-word-preserved c = record {
  known = named_more wire_names c.args.words.now c.loop-word.word-index _ c.loop-word-test.true c.loop-word.invariant.known c.in_ok-take_in.ensures.known;
  policy = at_most_once_more (Spells policy_word) (codes "policy") c.args.words.now c.loop-word.word-index _ _ _ c.loop-word-test.true c.loop-word.invariant.policy c.in_ok-take_in.ensures.policy;
  translator = at_most_once_more (Spells translator_word) (codes "translator") c.args.words.now c.loop-word.word-index _ _ _ c.loop-word-test.true c.loop-word.invariant.translator c.in_ok-take_in.ensures.translator;
  kind = at_most_once_more (Spells kind_word) (codes "store") c.args.words.now c.loop-word.word-index _ _ _ c.loop-word-test.true c.loop-word.invariant.kind c.in_ok-take_in.ensures.kind;
  slots = at_most_once_more WritesSlots (codes "slots") c.args.words.now c.loop-word.word-index _ _ _ c.loop-word-test.true c.loop-word.invariant.slots c.in_ok-take_in.ensures.slots;
  file = at_most_once_more IsHeld (codes "file") c.args.words.now c.loop-word.word-index _ _ _ c.loop-word-test.true c.loop-word.invariant.file c.in_ok-take_in.ensures.file;
}

pub returns-in_err-take_in-clause-faulty : goal.returns-in_err-take_in-clause-faulty
returns-in_err-take_in-clause-faulty c =
    wiring_faulty _ c.args.words.now c.loop-word.word-index _ c.loop-word.met _ c.from_residual.ensures.1 c.loop-word-test.true
    c.loop-word.invariant.policy c.loop-word.invariant.translator c.loop-word.invariant.kind c.loop-word.invariant.slots c.loop-word.invariant.file
    c.in_err-take_in.ensures.faulty

pub returns-in_err-source-clause-faulty : goal.returns-in_err-source-clause-faulty
returns-in_err-source-clause-faulty c =
    source_faulty _ c.args.words.now c.loop-word.word-index _ _ _ _ c.from_residual-in_err-source.ensures.1 c.loop-word-test.false
    c.loop-word.invariant.kind c.loop-word.invariant.slots c.loop-word.invariant.file c.in_err-source.ensures
