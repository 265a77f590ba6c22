use Rattle.std.proofs.Common.{◌≡◌, ℕ, List, Some, string_bytes, take}
use Rattle.listing.specs.Lines.{listed}
use Rattle.listing.proofs.lines.listed.Given as goal

abbrev pub invariant-loop-item : goal.invariant-loop-item
invariant-loop-item g l =
    (text : g.row.D.Denot → List ℕ) → ((x : g.row.D.Denot) → g.D.Display.output x ≡ Some (text x))
    → string_bytes l.line ≡ listed text l.start (take l.item-index l.items)
