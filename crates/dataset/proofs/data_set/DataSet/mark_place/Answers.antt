use Rattle.dataset.specs.Slots.{place_found}
use Rattle.dataset.proofs.data_set.DataSet.mark_place.Goals as goal

pub returns-clause-within : goal.returns-clause-within
returns-clause-within c = rw (c.then_some.ensures, c.count.ensures) (place_found c.args.self.now.items c.args.slot)
