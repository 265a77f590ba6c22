use Rattle.std.proofs.Common.{◌≡◌, sym, subst, arith}
use Rattle.std.proofs.lemmas.Grind.{common_steps}
use Rattle.pages.specs.Runs.{run_of, Kept}
use Rattle.pages.proofs.Running.{run_kept}
use Rattle.pages.proofs.runs.work.Goals as goal

pub returns-clause-kept : goal.returns-clause-kept
returns-clause-kept g c =
    let r = g.S.PageStore.rules in
    let cs = c.args.calls.now in
    let m = g.S.PageStore.model c.args.store.now in
    let end : g.S.PageStore.model c.loop-call.store ≡ run_of r cs m = grind (arith, common_steps) in
    subst (Kept r cs m) (sym end) (run_kept r g.met.S.PageStore.lawful cs m (g.met.S.PageStore.valid c.args.store.now))
