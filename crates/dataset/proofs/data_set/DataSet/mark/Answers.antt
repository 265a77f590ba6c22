use Rattle.dataset.specs.Slots.{mark_told}
use Rattle.dataset.proofs.data_set.DataSet.mark.Goals as goal

pub returns : goal.returns
returns c =
    let read = rw c.self.view_is at c.index.ensures in
    rw (c.ok.ensures.value, c.try_from.ensures)
    (mark_told c.args.self.now.items c.args.slot c.in_ok-at.at c.in_ok-at.ensures.place c.index.result.now read)
