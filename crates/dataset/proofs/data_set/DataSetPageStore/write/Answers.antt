use Rattle.std.proofs.Common.{◌≡◌, ◌+◌, ◌-◌, ◌<◌, ◌≤◌, Ok, length, sym, ap, ◌∙◌, arith, rules}
use Rattle.std.specs.Vec.{with_items, with_item}
use Rattle.std.proofs.lemmas.List.{length-set}
use borrow.Rule.Slice.PartMut.{put_mid}
use Rattle.pages.specs.Store.{refusal_at}
use Rattle.pages.proofs.Refusals.{write_done}
use Rattle.dataset.specs.Format.{checked, opened, set_rules, slots_in}
use Rattle.dataset.specs.Marks.{number_of}
use Rattle.dataset.specs.Slots.{within, mark_within, there, long, unrefused, stored, write_opened}
use Rattle.dataset.proofs.data_set.DataSetPageStore.write.Goals as goal
use Rattle.dataset.proofs.data_set.DataSetPageStore.write.Goals.{In_ok-check, After-copy_from_slice}

-- what the test of the slot has found
module _ (c : In_ok-check) where
  ok : Ok (number_of c.in_ok-check.field-0)
      ≡ checked c.self.inside.area.items c.args.slot (refusal_at set_rules c.self.inside.area.items c.args.slot (length c.args.page.now))
  ok = rw (← c.self.view_is) at c.in_ok-check.ensures

  slot_there : c.args.slot < slots_in c.self.inside.area.items
  slot_there = there c.self.inside.area.items c.args.slot (length c.args.page.now) (number_of c.in_ok-check.field-0) ok

  page_long : length c.args.page.now ≡ 2048
  page_long = long c.self.inside.area.items c.args.slot (length c.args.page.now) (number_of c.in_ok-check.field-0) ok

put : (c : After-copy_from_slice) → c.args.slot < slots_in c.self.inside.area.items → length c.args.page.now ≡ 2048
    → (with_items (with_item c.self.inside.area (8 + c.args.slot) 1) (put_mid c.place-at.result (c.place-at.result + 2048 - c.place-at.result) c.deref_mut.result.now c.copy_from_slice.new.self)).items
    ≡ set_rules.write c.self.inside.area.items c.args.slot c.args.page.now
put c h e =
    stored c.self.inside.area c.args.slot c.place-at.result c.args.page.now c.deref_mut.result.now c.copy_from_slice.new.self h e
    (rw (← c.self.view_is) at c.place-at.ensures) (rw c.number.ensures at c.deref_mut.ensures.value) c.copy_from_slice.ensures.after

pub index_mut-requires : goal.index_mut-requires
index_mut-requires c =
    let w = mark_within c.self.inside.area.items c.args.slot (slot_there (goal.at.index_mut-requires c).In_ok-check) in
    let l = c.self.inside.area.ok.0 in
    omega arith

pub slice_bounds-copy_from_slice-end : goal.slice_bounds-copy_from_slice-end
slice_bounds-copy_from_slice-end c =
    let w = within c.self.inside.area.items c.args.slot (slot_there (goal.at.slice_bounds-copy_from_slice-end c).In_ok-check) in
    let e = rw (← c.self.view_is) at c.place-at.ensures in
    let d : c.place-at.result + 2048 ≤ length c.deref_mut.result.now = rw c.deref_mut.ensures.value (simp length-set (omega arith)) in
    search rules

pub invariant_of-self : goal.invariant_of-self
invariant_of-self c =
    let at = goal.at.invariant_of-self c in
    let kept = write_opened c.self.inside.area.items c.args.slot c.args.page.now (slot_there at.In_ok-check) (page_long at.In_ok-check) in
    rw c.number.ensures (c.self.invariant ∙ sym (ap opened (put at.After-copy_from_slice (slot_there at.In_ok-check) (page_long at.In_ok-check)) ∙ kept))

pub returns-clause-after : goal.returns-clause-after
returns-clause-after c =
    let at = goal.at.returns-clause-after c in
    let b = c.self.inside.area.items in
    let none = unrefused b c.args.slot (length c.args.page.now) (number_of c.in_ok-check.field-0) (ok at.In_ok-check) in
    rw (← c.self.view_is, c.number.ensures) (write_done set_rules b c.args.slot c.args.page.now none _ (put at.After-copy_from_slice (slot_there at.In_ok-check) (page_long at.In_ok-check)))
