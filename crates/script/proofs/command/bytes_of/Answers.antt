use Rattle.std.proofs.Common.{subst, sym, take, ◌+◌}
use Rattle.std.proofs.lemmas.List.{take_all}
use Rattle.script.specs.Commands.{WriteBytes}
use Rattle.script.proofs.Faulty.{byte_misread, bytes_more}
use Rattle.script.proofs.command.bytes_of.Goals as goal

pub loop-word-preserved : goal.loop-word-preserved
loop-word-preserved c =
    subst (λ items. WriteBytes (take (c.loop-word.word-index + 1) c.args.words.now) items) (sym c.in_ok-push.ensures.items)
    (bytes_more c.args.words.now c.loop-word.bytes.items c.loop-word.word-index _ c.loop-word-test.true c.loop-word.invariant c.in_ok-byte_of.ensures)

pub returns-in_err-byte_of : goal.returns-in_err-byte_of
returns-in_err-byte_of c =
    byte_misread _ _ c.args.words.now c.loop-word.word-index _ c.from_residual.ensures.1 c.loop-word-test.true c.in_err-byte_of.ensures

pub returns : goal.returns
returns c = rw (take_all c.loop-word.word-index c.args.words.now c.loop-word-test.false) at c.loop-word.invariant
