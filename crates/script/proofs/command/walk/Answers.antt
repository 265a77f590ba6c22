use Rattle.std.proofs.Common.{arith, inl, inr, refl}
use Rattle.script.specs.Faults.{NoWord}
use Rattle.script.proofs.Faulty.{one_faulty, one_says, three_faulty}
use Rattle.script.proofs.command.walk.Goals as goal

pub returns-in-len3-clause-faulty : goal.returns-in-len3-clause-faulty
returns-in-len3-clause-faulty c = three_faulty c.walk_by.result _ _ _ c.args.words.now NoWord NoWord NoWord refl c.in-len3.len_at_least c.walk_by.ensures.says (λ why h. inr (omega arith, h))

pub returns-in_err-word_of-in-len1-clause-faulty : goal.returns-in_err-word_of-in-len1-clause-faulty
returns-in_err-word_of-in-len1-clause-faulty c =
    one_faulty _ _ _ c.args.words.now NoWord _ c.from_residual.ensures.1 refl c.in-len1.len_at_least c.in_err-word_of-in-len1.ensures (λ why m. inl (omega arith, m))

pub returns-in_ok-word_of-in-len1-clause-says : goal.returns-in_ok-word_of-in-len1-clause-says
returns-in_ok-word_of-in-len1-clause-says c = one_says c.args.words.now _ c.in-len1.len_at_least c.in-len1.len_below c.in_ok-word_of-in-len1.ensures
