use Rattle.std.proofs.Common.{codes, take}
use Rattle.script.specs.Said.{AllNamed, values}
use Rattle.script.specs.Wirings.{IsHeld, Spells, wire_names, WritesSlots}
use Rattle.script.proofs.Named.{AtMostOnce}
use Rattle.script.specs.Words.{kind_word, policy_word, translator_word}
use Rattle.script.proofs.wiring.Wiring.of.Given as goal

abbrev pub invariant-loop-word : goal.invariant-loop-word
invariant-loop-word l = record {
  known : AllNamed wire_names (take l.word-index l.words);
  policy : AtMostOnce (Spells policy_word) (values (codes "policy") (take l.word-index l.words)) l.met.policy;
  translator : AtMostOnce (Spells translator_word) (values (codes "translator") (take l.word-index l.words)) l.met.translator;
  kind : AtMostOnce (Spells kind_word) (values (codes "store") (take l.word-index l.words)) l.met.kind;
  slots : AtMostOnce WritesSlots (values (codes "slots") (take l.word-index l.words)) l.met.slots;
  file : AtMostOnce IsHeld (values (codes "file") (take l.word-index l.words)) l.met.file;
}
