use Rattle.std.proofs.Common.{◌≡◌, slice_set, sym, ◌∙◌, arith}
use Rattle.dataset.specs.Format.{opened}
use Rattle.dataset.specs.Slots.{mark_put}
use Rattle.dataset.proofs.data_set.DataSet.mark_bad.Goals as goal
use Rattle.dataset.proofs.data_set.DataSet.mark_bad.Goals.{After-number}

put : (c : After-number) → opened (slice_set c.self.inside.area.items c.in_ok-at.at c.number.result) ≡ opened c.self.inside.area.items
put c =
    let place = rw (← c.self.view_is) at (sym c.in_ok-at.ensures.ok_part ∙ c.mark_place.ensures.place) in
    mark_put c.self.inside.area.items c.args.slot c.in_ok-at.at place c.number.result (omega arith)

pub invariant_of-self : goal.invariant_of-self
invariant_of-self c = c.self.invariant ∙ sym (put (goal.at.invariant_of-self c).After-number)

pub returns-clause-kept : goal.returns-clause-kept
returns-clause-kept c = rw (← c.self.view_is) (put (goal.at.returns-clause-kept c).After-number)
