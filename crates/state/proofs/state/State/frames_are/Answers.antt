use Rattle.std.proofs.Common.{rules, refl}
use Rattle.std.proofs.lemmas.Iterator.{YieldsList-from_range}
use Rattle.std.proofs.lemmas.Iterator.Search.{all_from_yields_List}
use borrow.Author.Tests.{tests}
use Rattle.model.specs.Layout.{frame_is}
use Rattle.state.proofs.Tested.{frames_are-all}
use Rattle.state.proofs.state.State.frames_are.Goals as goal

pub returns : goal.returns
returns c =
    let st = c.args.self.now in
    let s = c.args.storage.now in
    frames_are-all st.config s st.records c.supervisor.result c.frames.result c.all.result (search rules) (search rules)
    (all_from_yields_List (frame_is st.config s st.records) _ _ _ c.all.ensures.ran (YieldsList-from_range c.supervisor.result c.frames.result _ refl refl) (λ x b q k. search (rules, tests)))
