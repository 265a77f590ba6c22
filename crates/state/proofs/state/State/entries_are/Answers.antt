use Rattle.std.proofs.Common.{◌*◌, rules, refl, arith}
use Rattle.std.proofs.lemmas.Iterator.{YieldsList-from_range}
use Rattle.std.proofs.lemmas.Iterator.Search.{all_from_yields_List}
use borrow.Author.Tests.{tests}
use Rattle.state.proofs.Tested.{entries_are-all, right}
use Rattle.state.proofs.state.State.entries_are.Goals as goal

pub returns : goal.returns
returns c =
    let st = c.args.self.now in
    let s = c.args.storage.now in
    entries_are-all st.config s st.records (32 * c.segments.result) c.all.result (search rules)
    (all_from_yields_List (right st.config s st.records) _ _ _ c.all.ensures.ran (YieldsList-from_range 0 (32 * c.segments.result) _ refl (omega arith)) (λ x b q k. search (rules, tests)))
