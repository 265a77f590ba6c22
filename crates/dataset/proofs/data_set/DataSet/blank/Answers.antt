use Rattle.std.proofs.Common.{◌≡◌, sym, ap, ◌∙◌, subst}
use Rattle.std.specs.Vec.{with_items}
use Rattle.dataset.specs.Format.{Blank, blank_set, opened}
use Rattle.dataset.proofs.Blanks.{laid, blank_set_lem}
use Rattle.dataset.proofs.data_set.DataSet.blank.Goals as goal
use Rattle.dataset.proofs.data_set.DataSet.blank.Goals.{After-write-2}

made : (c : After-write-2) → (with_items (with_items c.in_ok-area.area c.write.new.storage) c.write-2.new.storage).items ≡ blank_set c.args.slots
made c =
    laid c.in_ok-area.area c.args.slots c.deref_mut.result.now c.write.new.storage c.deref_mut-2.result.now c.write-2.new.storage
    (c.in_ok-area.ensures.items_if_clones_equal (λ y q. q)) c.deref_mut.ensures.value c.write.ensures c.deref_mut-2.ensures.value c.write-2.ensures

pub invariant_of-result : goal.invariant_of-result
invariant_of-result c =
    sym (ap opened (made (goal.at.invariant_of-result c).After-write-2) ∙ (blank_set_lem c.args.slots c.if-slots-gt-MOST_SLOTS.false).accepted)

pub returns-clause-cases : goal.returns-clause-cases
returns-clause-cases c = (c.if-slots-gt-MOST_SLOTS.false, made (goal.at.returns-clause-cases c).After-write-2)

pub returns-clause-slots : goal.returns-clause-slots
returns-clause-slots c =
    subst (Blank c.args.slots) (sym (made (goal.at.returns-clause-slots c).After-write-2)) (blank_set_lem c.args.slots c.if-slots-gt-MOST_SLOTS.false)
