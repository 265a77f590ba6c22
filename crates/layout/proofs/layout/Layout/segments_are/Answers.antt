use Rattle.std.proofs.Common.{rules, refl, arith}
use Rattle.std.proofs.lemmas.Iterator.{YieldsList-from_range}
use Rattle.std.proofs.lemmas.Iterator.Search.{all_from_yields_List}
use borrow.Author.Tests.{tests}
use Rattle.layout.proofs.Made.{right, segments_are-list_all}
use Rattle.layout.proofs.layout.Layout.segments_are.Goals as goal

pub returns : goal.returns
returns c =
    let layout = c.args.self.now in
    let s = c.args.storage.now in
    rw (← c.segment_entries.ensures, segments_are-list_all layout s 0 _)
    (all_from_yields_List (right layout s) _ _ _ c.all.ensures.ran (YieldsList-from_range 0 c.segment_entries.result _ refl (omega arith)) (λ x b q k. search (rules, tests)))
