use Rattle.std.proofs.Common.{arith}
use Rattle.script.specs.Faults.{Misreads, NoByte, NoWord}
use Rattle.script.specs.declared.command.Command.TheVariants.{Display, Keys, Load, Mark}
use Rattle.script.proofs.Faulty.{known_faulty, one_faulty, one_says, three_faulty, two_faulty, two_say}
use Rattle.script.proofs.command.Command.of.Goals as goal

pub returns-in_err-word_of-in-Bad-len1-clause-faulty : goal.returns-in_err-word_of-in-Bad-len1-clause-faulty
returns-in_err-word_of-in-Bad-len1-clause-faulty c =
    one_faulty _ _ _ c.args.words.now NoWord _ c.from_residual-in_err-word_of-in-Bad-len1.ensures.1 c.in-Bad-len1.is-0 c.in-Bad-len1.len_at_least c.in_err-word_of-in-Bad-len1.ensures (λ why m. (omega arith, m))

pub returns-in_ok-word_of-in-Bad-len1-clause-says : goal.returns-in_ok-word_of-in-Bad-len1-clause-says
returns-in_ok-word_of-in-Bad-len1-clause-says c = one_says c.args.words.now _ c.in-Bad-len1.len_at_least c.in-Bad-len1.len_below c.in_ok-word_of-in-Bad-len1.ensures

pub returns-in_err-limited-in-Storage-len1-clause-faulty : goal.returns-in_err-limited-in-Storage-len1-clause-faulty
returns-in_err-limited-in-Storage-len1-clause-faulty c =
    one_faulty _ _ _ c.args.words.now (λ text. Misreads text 67108864) _ c.from_residual-in_err-limited-in-Storage-len1.ensures.1 c.in-Storage-len1.is-0 c.in-Storage-len1.len_at_least c.in_err-limited-in-Storage-len1.ensures (λ why m. (omega arith, m))

pub returns-in_ok-limited-in-Storage-len1-clause-says : goal.returns-in_ok-limited-in-Storage-len1-clause-says
returns-in_ok-limited-in-Storage-len1-clause-says c =
    let h = one_says c.args.words.now _ c.in-Storage-len1.len_at_least c.in-Storage-len1.len_below c.in_ok-limited-in-Storage-len1.ensures.0 in
    (h.0, h.1, c.in_ok-limited-in-Storage-len1.ensures.1)

pub returns-in_err-word_of-in-Slot-len1-clause-faulty : goal.returns-in_err-word_of-in-Slot-len1-clause-faulty
returns-in_err-word_of-in-Slot-len1-clause-faulty c =
    one_faulty _ _ _ c.args.words.now NoWord _ c.from_residual-in_err-word_of-in-Slot-len1.ensures.1 c.in-Slot-len1.is-0 c.in-Slot-len1.len_at_least c.in_err-word_of-in-Slot-len1.ensures (λ why m. (omega arith, m))

pub returns-in_ok-word_of-in-Slot-len1-clause-says : goal.returns-in_ok-word_of-in-Slot-len1-clause-says
returns-in_ok-word_of-in-Slot-len1-clause-says c = one_says c.args.words.now _ c.in-Slot-len1.len_at_least c.in-Slot-len1.len_below c.in_ok-word_of-in-Slot-len1.ensures

pub returns-in_err-word_of-in-Fix-len1-clause-faulty : goal.returns-in_err-word_of-in-Fix-len1-clause-faulty
returns-in_err-word_of-in-Fix-len1-clause-faulty c =
    one_faulty _ _ _ c.args.words.now NoWord _ c.from_residual-in_err-word_of-in-Fix-len1.ensures.1 c.in-Fix-len1.is-0 c.in-Fix-len1.len_at_least c.in_err-word_of-in-Fix-len1.ensures (λ why m. (omega arith, m))

pub returns-in_ok-word_of-in-Fix-len1-clause-says : goal.returns-in_ok-word_of-in-Fix-len1-clause-says
returns-in_ok-word_of-in-Fix-len1-clause-says c = one_says c.args.words.now _ c.in-Fix-len1.len_at_least c.in-Fix-len1.len_below c.in_ok-word_of-in-Fix-len1.ensures

pub returns-in_err-word_of-in-Free-len1-clause-faulty : goal.returns-in_err-word_of-in-Free-len1-clause-faulty
returns-in_err-word_of-in-Free-len1-clause-faulty c =
    one_faulty _ _ _ c.args.words.now NoWord _ c.from_residual-in_err-word_of-in-Free-len1.ensures.1 c.in-Free-len1.is-0 c.in-Free-len1.len_at_least c.in_err-word_of-in-Free-len1.ensures (λ why m. (omega arith, m))

pub returns-in_ok-word_of-in-Free-len1-clause-says : goal.returns-in_ok-word_of-in-Free-len1-clause-says
returns-in_ok-word_of-in-Free-len1-clause-says c = one_says c.args.words.now _ c.in-Free-len1.len_at_least c.in-Free-len1.len_below c.in_ok-word_of-in-Free-len1.ensures

pub returns-in_err-word_of-in-Entry-len1-clause-faulty : goal.returns-in_err-word_of-in-Entry-len1-clause-faulty
returns-in_err-word_of-in-Entry-len1-clause-faulty c =
    one_faulty _ _ _ c.args.words.now NoWord _ c.from_residual-in_err-word_of-in-Entry-len1.ensures.1 c.in-Entry-len1.is-0 c.in-Entry-len1.len_at_least c.in_err-word_of-in-Entry-len1.ensures (λ why m. (omega arith, m))

pub returns-in_ok-word_of-in-Entry-len1-clause-says : goal.returns-in_ok-word_of-in-Entry-len1-clause-says
returns-in_ok-word_of-in-Entry-len1-clause-says c = one_says c.args.words.now _ c.in-Entry-len1.len_at_least c.in-Entry-len1.len_below c.in_ok-word_of-in-Entry-len1.ensures

pub returns-in-Mark-len2-clause-says : goal.returns-in-Mark-len2-clause-says
returns-in-Mark-len2-clause-says c = two_say Mark c.args.words.now c.mark.result _ c.in-Mark-len2.len_at_least c.in-Mark-len2.len_below c.mark.ensures.says (λ m n h. h)

pub returns-in-Mark-len2-clause-faulty : goal.returns-in-Mark-len2-clause-faulty
returns-in-Mark-len2-clause-faulty c =
    two_faulty c.mark.result _ _ _ c.args.words.now NoWord NoByte c.in-Mark-len2.is-0 c.in-Mark-len2.len_at_least c.mark.ensures.says (λ why h. (omega arith, h))

pub returns-in-Display-len2-clause-says : goal.returns-in-Display-len2-clause-says
returns-in-Display-len2-clause-says c = two_say Display c.args.words.now c.display.result _ c.in-Display-len2.len_at_least c.in-Display-len2.len_below c.display.ensures.says (λ m n h. h)

pub returns-in-Display-len2-clause-faulty : goal.returns-in-Display-len2-clause-faulty
returns-in-Display-len2-clause-faulty c =
    two_faulty c.display.result _ _ _ c.args.words.now NoWord NoWord c.in-Display-len2.is-0 c.in-Display-len2.len_at_least c.display.ensures.says (λ why h. (omega arith, h))

pub returns-in-Load-len2-clause-says : goal.returns-in-Load-len2-clause-says
returns-in-Load-len2-clause-says c = two_say Load c.args.words.now c.load.result _ c.in-Load-len2.len_at_least c.in-Load-len2.len_below c.load.ensures.says (λ m n h. h)

pub returns-in-Load-len2-clause-faulty : goal.returns-in-Load-len2-clause-faulty
returns-in-Load-len2-clause-faulty c =
    two_faulty c.load.result _ _ _ c.args.words.now NoWord NoByte c.in-Load-len2.is-0 c.in-Load-len2.len_at_least c.load.ensures.says (λ why h. (omega arith, h))

pub returns-in-Keys-len2-clause-says : goal.returns-in-Keys-len2-clause-says
returns-in-Keys-len2-clause-says c = two_say Keys c.args.words.now c.keys.result _ c.in-Keys-len2.len_at_least c.in-Keys-len2.len_below c.keys.ensures.says (λ m n h. h)

pub returns-in-Keys-len2-clause-faulty : goal.returns-in-Keys-len2-clause-faulty
returns-in-Keys-len2-clause-faulty c =
    two_faulty c.keys.result _ _ _ c.args.words.now NoWord NoWord c.in-Keys-len2.is-0 c.in-Keys-len2.len_at_least c.keys.ensures.says (λ why h. (omega arith, h))

pub returns-in-Store-len3-clause-faulty : goal.returns-in-Store-len3-clause-faulty
returns-in-Store-len3-clause-faulty c =
    three_faulty c.store.result _ _ _ c.args.words.now NoWord NoByte NoByte c.in-Store-len3.is-0 c.in-Store-len3.len_at_least c.store.ensures.says (λ why h. (omega arith, h))

pub returns-in_err-of-in-Wire-default-clause-faulty : goal.returns-in_err-of-in-Wire-default-clause-faulty
returns-in_err-of-in-Wire-default-clause-faulty c =
    known_faulty _ _ _ c.args.words.now _ c.from_residual.ensures.1 c.in-Wire-default.is-0 c.in_err-of-in-Wire-default.ensures.faulty

pub returns-in_err-of-in-Ipl-default-clause-faulty : goal.returns-in_err-of-in-Ipl-default-clause-faulty
returns-in_err-of-in-Ipl-default-clause-faulty c =
    known_faulty _ _ _ c.args.words.now _ c.from_residual-in_err-of-in-Ipl-default.ensures.1 c.in-Ipl-default.is-0 c.in_err-of-in-Ipl-default.ensures.faulty
