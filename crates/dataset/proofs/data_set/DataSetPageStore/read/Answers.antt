use Rattle.std.proofs.Common.{◌≡◌, ◌+◌, ◌≤◌, ◌==◌, true, false, length, ap, ◌∙◌, refl, not, arith, rules}
use Rattle.pages.proofs.Refusals.{read_done}
use denote.Enum.Bare.{sameb}
use Rattle.dataset.specs.contracts.mark.Mark.{the_type}
use Rattle.dataset.specs.declared.mark.Mark.{Mark}
use Rattle.dataset.specs.declared.mark.Mark.TheVariants.{Blank, Written, Bad}
use Rattle.dataset.specs.Format.{set_rules}
use Rattle.dataset.specs.Marks.{number_of}
use Rattle.dataset.specs.Slots.{within, there, unrefused, read_blank, read_written}
use Rattle.dataset.proofs.data_set.DataSetPageStore.read.Goals as goal
use Rattle.dataset.proofs.data_set.DataSetPageStore.read.Goals.{After-place-at}

blank : (mark : Mark) → true ≡ not (sameb the_type mark Written) → false ≡ (number_of mark == 1)
blank Blank e = refl
blank Written e = cc
blank Bad e = refl

written : (mark : Mark) → false ≡ not (sameb the_type mark Written) → true ≡ (number_of mark == 1)
written Blank e = cc
written Written e = refl
written Bad e = cc

pub returns-then-ne-clause-after : goal.returns-then-ne-clause-after
returns-then-ne-clause-after c =
    let b = c.args.self.now.items in
    let k = c.args.slot in
    let buffer = c.args.page.now in
    let mark = number_of c.in_ok-mark.mark in
    let none = unrefused b k (length buffer) mark c.in_ok-mark.ensures in
    read_done set_rules b k buffer none _
    (read_blank b k (length buffer) mark c.in_ok-mark.ensures c.fill.new.self (blank c.in_ok-mark.mark c.if-ne.ensures) (c.fill.ensures.after (λ y q. q)))

place_fits : (c : After-place-at) → c.place-at.result + 2048 ≤ length c.args.self.now.items
place_fits c =
    let b = c.args.self.now.items in
    let k = c.args.slot in
    let w = within b k (there b k (length c.args.page.now) (number_of c.in_ok-mark.mark) c.in_ok-mark.ensures) in
    let e = c.place-at.ensures in
    omega arith

pub overflow_add-at : goal.overflow_add-at
overflow_add-at c =
    let f = place_fits (goal.at.overflow_add-at c).After-place-at in
    let l = c.args.self.now.ok.0 in
    search rules

pub slice_bounds-copy_from_slice-end : goal.slice_bounds-copy_from_slice-end
slice_bounds-copy_from_slice-end c =
    let f = place_fits (goal.at.slice_bounds-copy_from_slice-end c).After-place-at in
    let d : c.place-at.result + 2048 ≤ length c.deref.result.now = rw (c.deref.ensures.value, c.self.view_is) f in
    search rules

pub returns-clause-after : goal.returns-clause-after
returns-clause-after c =
    let b = c.args.self.now.items in
    let k = c.args.slot in
    let buffer = c.args.page.now in
    let mark = number_of c.in_ok-mark.mark in
    let none = unrefused b k (length buffer) mark c.in_ok-mark.ensures in
    read_done set_rules b k buffer none _
    (read_written b k (length buffer) mark c.in_ok-mark.ensures c.copy_from_slice.new.self c.deref.result.now c.place-at.result
    (written c.in_ok-mark.mark c.if-ne.ensures) c.place-at.ensures (c.deref.ensures.value ∙ ap (λ v. v.items) c.self.view_is) c.copy_from_slice.ensures.after)
