use Rattle.std.proofs.Common.{◌∙◌, ltb, rules, tests, sym, refl}
use Rattle.std.proofs.lemmas.Iterator.{YieldsList-from_range}
use Rattle.std.proofs.lemmas.Iterator.Consumers.{YieldsList-from_filter, count_from_yields_List}
use Rattle.model.specs.Layout.{fixes_in}
use Rattle.table.proofs.Sweeps.{counted-length_filter}
use Rattle.table.proofs.FrameTable.count_fixed.Goals as goal

pub returns : goal.returns
returns c =
    count_from_yields_List c.filter.result _ c.count.ensures.ran
    (YieldsList-from_filter _ (λ g. ltb 0 (fixes_in c.args.self.now g)) (YieldsList-from_range c.args.first c.args.past _ c.filter.ensures.source refl) c.filter.ensures.closure (λ x b q k. search (rules, tests)))
    ∙ sym (counted-length_filter _ c.args.first _)
