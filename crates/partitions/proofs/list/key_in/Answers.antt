use Rattle.std.proofs.Common.{rules, leb, ltb, ◌+◌, ◌&&◌}
use Rattle.std.proofs.lemmas.Iterator.{YieldsList-from_slice}
use Rattle.std.proofs.lemmas.Iterator.Search.{find_from_yields_List}
use borrow.Author.Tests.{tests}
use Rattle.model.specs.declared.shape.Partition.{Partition}
use Rattle.partitions.proofs.Searched.{key_of-find}
use Rattle.partitions.proofs.list.key_in.Goals as goal

pub returns : goal.returns
returns c =
    let e = find_from_yields_List (λ (p : Partition). leb p.first c.args.page && ltb c.args.page (p.first + p.count)) _ _ c.find.result c.find.ensures.ran (YieldsList-from_slice c.args.list.now cc) (λ x b q k. search (rules, tests)) in
    let d = c.map.ensures in
    rw (key_of-find c.args.list.now c.args.page, ← e) (search rules)
