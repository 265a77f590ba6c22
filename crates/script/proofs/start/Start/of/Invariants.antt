use Rattle.std.proofs.Common.{codes, take}
use Rattle.std.specs.List.{AllZip}
use Rattle.script.specs.Numbers.{Writes}
use Rattle.script.specs.Said.{AllNamed, values}
use Rattle.script.proofs.Named.{AtMostOnce}
use Rattle.script.specs.Starts.{start_names, WritesPartition}
use Rattle.script.proofs.start.Start.of.Given as goal

abbrev pub invariant-loop-word : goal.invariant-loop-word
invariant-loop-word l = record {
  known : AllNamed start_names (take l.word-index l.words);
  frames : AtMostOnce Writes (values (codes "frames") (take l.word-index l.words)) l.met.frames;
  supervisor : AtMostOnce Writes (values (codes "supervisor") (take l.word-index l.words)) l.met.supervisor;
  pages : AtMostOnce Writes (values (codes "pages") (take l.word-index l.words)) l.met.pages;
  partitions : AllZip WritesPartition (values (codes "partition") (take l.word-index l.words)) l.met.partitions.items;
}
