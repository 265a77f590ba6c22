use Rattle.std.proofs.Common.{arith, inl, refl}
use Rattle.script.specs.Faults.{NoWord}
use Rattle.script.proofs.Faulty.{alter_says, bytes_faulty, one_faulty}
use Rattle.script.proofs.command.alter.Goals as goal

pub returns-in_err-address-clause-faulty : goal.returns-in_err-address-clause-faulty
returns-in_err-address-clause-faulty c =
    one_faulty _ _ _ c.args.words.now NoWord _ c.from_residual.ensures.1 refl (omega arith) c.in_err-address.ensures (λ why m. (c.in-len2-up.len_at_least, inl m))

pub returns-clause-says : goal.returns-clause-says
returns-clause-says c = alter_says c.args.words.now _ _ c.in-len2-up.len_at_least c.in_ok-address.ensures c.in_ok-bytes.ensures

pub returns-in_err-bytes-clause-faulty : goal.returns-in_err-bytes-clause-faulty
returns-in_err-bytes-clause-faulty c = bytes_faulty _ c.args.words.now _ c.in-len2-up.len_at_least c.from_residual-in_err-bytes.ensures.1 c.in_err-bytes.ensures
