use Rattle.std.proofs.Common.{◌≡◌, ◌+◌, ◌-◌, is_ok, take, drop, sym, ap, ◌∙◌, arith, rules, tests}
use Rattle.std.specs.List.{list_all}
use Rattle.std.proofs.lemmas.Iterator.{YieldsList-from_slice}
use Rattle.std.proofs.lemmas.Iterator.Search.{all_from_yields_List}
use Rattle.dataset.specs.Marks.{mark_from}
use Rattle.dataset.specs.Opening.{known_list}
use Rattle.dataset.proofs.data_set.marks_known.Goals as goal

pub returns : goal.returns
returns c =
    let marks = take (8 + c.args.count - 8) (drop 8 c.args.area.now) in
    let all = all_from_yields_List (λ m. is_ok (mark_from m)) _ _ c.all.result c.all.ensures.ran (YieldsList-from_slice marks cc) (λ x b q k. search (rules, tests)) in
    let n : 8 + c.args.count - 8 ≡ c.args.count = omega arith in
    all ∙ ap (λ i. list_all (λ m. is_ok (mark_from m)) (take i (drop 8 c.args.area.now))) n ∙ sym (known_list c.args.area.now c.args.count c.requires)
