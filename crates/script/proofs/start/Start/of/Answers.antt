use Rattle.std.proofs.Common.{codes}
use Rattle.script.specs.Numbers.{Writes}
use Rattle.script.specs.Starts.{start_names, WritesPartition}
use Rattle.script.proofs.Named.{appended_all, appended_more, at_most_once_more, named_all, named_more, once_or_zero, said_all}
use Rattle.script.proofs.WordFaulty.{start_faulty}
use Rattle.script.proofs.start.Start.of.Goals as goal

pub loop-word-preserved : goal.loop-word-preserved
loop-word-preserved c = record {
  known = named_more start_names c.args.words.now c.loop-word.word-index _ c.loop-word-test.true c.loop-word.invariant.known c.in_ok-take_in.ensures.known;
  frames = at_most_once_more Writes (codes "frames") c.args.words.now c.loop-word.word-index _ _ _ c.loop-word-test.true c.loop-word.invariant.frames c.in_ok-take_in.ensures.frames;
  supervisor = at_most_once_more Writes (codes "supervisor") c.args.words.now c.loop-word.word-index _ _ _ c.loop-word-test.true c.loop-word.invariant.supervisor c.in_ok-take_in.ensures.supervisor;
  pages = at_most_once_more Writes (codes "pages") c.args.words.now c.loop-word.word-index _ _ _ c.loop-word-test.true c.loop-word.invariant.pages c.in_ok-take_in.ensures.pages;
  partitions = appended_more WritesPartition (codes "partition") c.args.words.now c.loop-word.word-index _ _ _ c.loop-word-test.true c.loop-word.invariant.partitions c.in_ok-take_in.ensures.partitions;
}

pub returns-clause-says : goal.returns-clause-says
returns-clause-says c = record {
  known = named_all start_names _ _ c.loop-word-test.false c.loop-word.invariant.known;
  frames = rw c.unwrap_or.ensures (once_or_zero Writes _ _ (said_all Writes (codes "frames") _ _ _ c.loop-word-test.false c.loop-word.invariant.frames));
  supervisor = rw c.unwrap_or-2.ensures (once_or_zero Writes _ _ (said_all Writes (codes "supervisor") _ _ _ c.loop-word-test.false c.loop-word.invariant.supervisor));
  pages = rw c.unwrap_or-3.ensures (once_or_zero Writes _ _ (said_all Writes (codes "pages") _ _ _ c.loop-word-test.false c.loop-word.invariant.pages));
  partitions = appended_all WritesPartition (codes "partition") _ _ _ c.loop-word-test.false c.loop-word.invariant.partitions;
}

pub returns-in_err-take_in-clause-faulty : goal.returns-in_err-take_in-clause-faulty
returns-in_err-take_in-clause-faulty c =
    start_faulty _ c.args.words.now c.loop-word.word-index _ c.loop-word.met _ c.from_residual.ensures.1 c.loop-word-test.true
    c.loop-word.invariant.frames c.loop-word.invariant.supervisor c.loop-word.invariant.pages c.in_err-take_in.ensures.faulty
