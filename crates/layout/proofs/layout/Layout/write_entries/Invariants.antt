use Rattle.std.proofs.Common.{◌≡◌, ◌-◌, ◌*◌}
use Rattle.model.specs.Ipl.{with_entries}
use Rattle.model.specs.Layout.{segments}
use Rattle.layout.proofs.layout.Layout.write_entries.Given as goal

abbrev pub invariant-loop-page : goal.invariant-loop-page
invariant-loop-page l =
    with_entries l.self l.page (l.count - l.page) l.storage ≡ with_entries l.self 0 (32 * segments l.self) l.initial.storage
