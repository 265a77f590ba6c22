use Rattle.std.proofs.Common.{◌≡◌, ◌≤◌, length, drop}
use Rattle.pages.specs.Runs.{run_of, run_buffer}
use Rattle.pages.proofs.runs.work.Given as goal

-- What is left of the run leads to its end.
abbrev pub invariant-loop-call : goal.invariant-loop-call
invariant-loop-call g l =
    (l.call-index ≤ length l.calls)
    × (run_of g.S.PageStore.rules (drop l.call-index l.calls) (g.S.PageStore.model l.store)
    ≡ run_of g.S.PageStore.rules l.calls (g.S.PageStore.model l.initial.store))
    × (run_buffer g.S.PageStore.rules (drop l.call-index l.calls) (g.S.PageStore.model l.store) l.page
    ≡ run_buffer g.S.PageStore.rules l.calls (g.S.PageStore.model l.initial.store) l.initial.page)
