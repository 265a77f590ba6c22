use Rattle.std.proofs.Common.{length, ap, ◌∙◌}
use Rattle.pages.specs.Store.{refusal_at}
use Rattle.pages.proofs.Refusals.{answered, read_done}
use Rattle.area.specs.Plain.{plain_rules}
use Rattle.area.specs.Slots.{copied}
use Rattle.area.proofs.PlainAreaPageStore.read.Goals as goal

pub returns-clause-after : goal.returns-clause-after
returns-clause-after c =
    let m = c.args.self.now.items in
    let k = c.args.slot in
    let buffer = c.args.page.now in
    let none = answered plain_rules m k (refusal_at plain_rules m k (length buffer)) c.in_ok-check.ensures in
    let page = copied m c.deref.result.now c.copy_from_slice.new.self k c.place-at.result
    c.place-at.ensures (c.deref.ensures.value ∙ ap (λ v. v.items) c.self.view_is) c.copy_from_slice.ensures.after in
    read_done plain_rules m k buffer none _ page
