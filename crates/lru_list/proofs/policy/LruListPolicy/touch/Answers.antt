use Rattle.std.proofs.Common.{sym, ◌∙◌, subst}
use Rattle.frames.specs.Held.{Once}
use Rattle.lru_list.specs.Laws.{once_touched}
use Rattle.lru_list.proofs.Kept.{found_moved, nowhere_touched}
use Rattle.lru_list.proofs.policy.LruListPolicy.touch.Goals as goal

pub invariant_of-self : goal.invariant_of-self
invariant_of-self c =
    let s = c.args.self.now in
    let moved = c.move_to_end.ensures.after ∙ found_moved s.frames c.args.frame c.in-Some.place s.once (sym c.in-Some.ensures) in
    record { once = subst Once (sym moved) (once_touched s.frames c.args.frame s.once) }

pub returns-in-Some : goal.returns-in-Some
returns-in-Some c =
    let s = c.args.self.now in
    c.move_to_end.ensures.after ∙ found_moved s.frames c.args.frame c.in-Some.place s.once (sym c.in-Some.ensures)

pub returns-in_default : goal.returns-in_default
returns-in_default c = nowhere_touched c.args.self.now.frames c.args.frame (sym c.in_default.ensures)
