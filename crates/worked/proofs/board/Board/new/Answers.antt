use Rattle.std.proofs.Common.{◌≡◌, ◌∙◌, ℕ, ◌*◌, List, [], ap, refl, replicate}
use Rattle.cases.specs.Worked.{off}
use Rattle.dataset.specs.Format.{blank_set}
use Rattle.machine.specs.Machine.{unstarted}
use Rattle.queues.specs.Five.{Five, empty}
use Rattle.tables.specs.declared.Controls.{Controls}
use Rattle.translation.specs.declared.pair.Pair.{Pair}
use Rattle.worked.proofs.board.Board.new.Goals as goal

unstarted-off : (k : Controls) (ps : List Pair) (p : Five) (s items : List ℕ) (frames slots : ℕ)
    → k ≡ record { cr0 = 0; cr1 = 0 } → ps ≡ [] → p ≡ empty → s ≡ blank_set slots → items ≡ replicate (2048 * frames) 0
    → unstarted (k, ps) p s items ≡ off frames slots
unstarted-off k ps p s items frames slots controls pairs policy set zeros = rw controls (rw pairs (rw policy (rw set (rw zeros refl))))

pub returns : goal.returns
returns c =
    c.new-3.ensures c.in_ok-storage.storage.items
    ∙ unstarted-off _ _ _ _ _ _ _ (ap (λ w. w.controls) c.over.ensures.0 ∙ c.new.ensures) c.over.ensures.1 c.new-2.ensures c.in_ok-slots.ensures.cases.1 (c.in_ok-storage.ensures.items_if_clones_equal (λ y same. same))
