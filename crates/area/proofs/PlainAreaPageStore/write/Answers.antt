use Rattle.std.proofs.Common.{length}
use Rattle.pages.specs.Store.{refusal_at}
use Rattle.pages.proofs.Refusals.{answered, none_usable, write_done}
use Rattle.area.specs.Plain.{plain_rules}
use Rattle.area.specs.Slots.{stored}
use Rattle.area.proofs.PlainAreaPageStore.write.Goals as goal

pub returns-clause-after : goal.returns-clause-after
returns-clause-after c =
    let v = c.self.inside.area in
    let k = c.args.slot in
    let p = c.args.page.now in
    let ok = rw (← c.self.view_is) at c.in_ok-check.ensures in
    let none = answered plain_rules v.items k (refusal_at plain_rules v.items k (length p)) ok in
    let u = none_usable plain_rules v.items k (length p) none in
    let put = stored v k c.place-at.result p c.deref_mut.result.now c.copy_from_slice.new.self u.1.0 u.0
    c.place-at.ensures c.deref_mut.ensures.value c.copy_from_slice.ensures.after in
    rw (← c.self.view_is) (write_done plain_rules v.items k p none _ put)
