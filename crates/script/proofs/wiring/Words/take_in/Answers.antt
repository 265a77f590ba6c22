use Rattle.std.proofs.Common.{codes, refl}
use Rattle.script.specs.Faults.{Misreads}
use Rattle.script.proofs.Named.{cut}
use Rattle.script.proofs.WordFaulty.{wiring_bare, wiring_misread, wiring_other}
use Rattle.script.proofs.wiring.Words.take_in.Goals as goal

pub returns-in_err-name-clause-faulty : goal.returns-in_err-name-clause-faulty
returns-in_err-name-clause-faulty c =
    wiring_bare _ c.args.self.now c.args.word.now _ _ c.from_residual.ensures.1 c.in_err-name.ensures.value c.in_err-name.ensures.ok_part c.split_once.ensures.cases

pub returns-in_err-limited-in-slots-clause-faulty : goal.returns-in_err-limited-in-slots-clause-faulty
returns-in_err-limited-in-slots-clause-faulty c =
    let e = cut c.args.word.now _ _ (codes "slots") c.split_once.ensures.cases c.in_ok-name.ensures.ok_part c.in-slots.is in
    wiring_misread _ c.args.self.now c.args.word.now (Misreads _ 16384) _ c.from_residual-in_err-limited-in-slots.ensures.1 c.in_err-limited-in-slots.ensures
    (λ why m. rw e m)

pub returns-in_default-clause-faulty : goal.returns-in_default-clause-faulty
returns-in_default-clause-faulty c =
    (refl, wiring_other c.args.word.now _ _ c.split_once.ensures.cases c.in_ok-name.ensures.ok_part c.in_default.not-policy c.in_default.not-translator c.in_default.not-store c.in_default.not-slots c.in_default.not-file)
