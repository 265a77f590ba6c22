use Rattle.std.proofs.Common.{take}
use Rattle.script.specs.Commands.{WriteBytes}
use Rattle.script.proofs.command.bytes_of.Given as goal

abbrev pub invariant-loop-word : goal.invariant-loop-word
invariant-loop-word l = WriteBytes (take l.word-index l.words) l.bytes.items
