use Rattle.std.proofs.Common.{◌≡◌, ◌-◌, ◌∙◌, ap, eqb, rules, tests, refl, arith}
use Rattle.std.proofs.lemmas.Iterator.{YieldsList-from_map, YieldsList-from_range}
use Rattle.std.proofs.lemmas.Iterator.Search.{find_from_yields_List}
use Rattle.model.specs.Layout.{found_in, page_in}
use Rattle.table.proofs.Sweeps.{found_in-by_find}
use Rattle.table.proofs.FrameTable.find.Goals as goal

found : (c : goal.After-find) → c.find.result ≡ found_in c.args.self.now c.args.page c.args.first (c.min.result - c.args.first)
found c =
    found_in-by_find _ _ _ _ _
    (find_from_yields_List (λ g. eqb (page_in c.args.self.now g) c.args.page) _ _ c.find.result c.find.ensures.ran
    (YieldsList-from_map _ (λ g. g) (YieldsList-from_range c.args.first c.min.result _ c.map.ensures.source refl) c.map.ensures.closure (λ x r q k. search (rules, tests)))
    (λ x b q k. search (rules, tests)))

pub returns-clause-found : goal.returns-clause-found
returns-clause-found c = λ h. let e : c.min.result ≡ c.args.past = omega (arith, c.min.ensures) in found c ∙ ap (λ n. found_in c.args.self.now c.args.page c.args.first (n - c.args.first)) e

pub returns-clause-end : goal.returns-clause-end
returns-clause-end c = λ h. let e : c.min.result ≡ 256 = omega (arith, c.min.ensures) in found c ∙ ap (λ n. found_in c.args.self.now c.args.page c.args.first (n - c.args.first)) e
