use Rattle.std.proofs.Common.{rules, ◌≡◌, true, sym, subst}
use Rattle.model.specs.Ipl.{in_order}
use Rattle.partitions.proofs.Apart.{apart}
use Rattle.partitions.proofs.Searched.{copied_filled, copied_taken}
use Rattle.partitions.specs.Partitions.{Apart}
use Rattle.partitions.proofs.list.Partitions.checked.Goals as goal

pub invariant_of-result : goal.invariant_of-result
invariant_of-result c = copied_filled c.args.list.now _ c.copy_from_slice.ensures.after c.if-list-gt5.false

pub returns-clause-apart : goal.returns-clause-apart
returns-clause-apart c =
    let fit : in_order c.args.supervisor c.args.pages c.args.list.now ≡ true = search rules in
    let same = copied_taken c.args.list.now _ c.copy_from_slice.ensures.after c.if-list-gt5.false in
    subst Apart (sym same) (apart c.args.supervisor c.args.pages c.args.list.now fit)
