use Rattle.std.proofs.Common.{sym, ◌∙◌, subst}
use Rattle.frames.specs.Held.{Once}
use Rattle.lru_list.specs.Laws.{once_without}
use Rattle.lru_list.proofs.Kept.{found_held, found_removed, nowhere_held, nowhere_left}
use Rattle.lru_list.proofs.policy.LruListPolicy.leave.Goals as goal

pub returns-in_default : goal.returns-in_default
returns-in_default c =
    let s = c.args.self.now in
    let at = sym c.in_default.ensures in
    record { answer = nowhere_held s.frames c.args.frame at; after = nowhere_left s.frames c.args.frame at }

pub invariant_of-self : goal.invariant_of-self
invariant_of-self c =
    let s = c.args.self.now in
    let gone = c.remove.ensures.after ∙ found_removed s.frames c.args.frame c.in-Some.place s.once (sym c.in-Some.ensures) in
    record { once = subst Once (sym gone) (once_without s.frames c.args.frame s.once) }

pub returns : goal.returns
returns c =
    let s = c.args.self.now in
    let at = sym c.in-Some.ensures in
    record {
      answer = found_held s.frames c.args.frame c.in-Some.place s.once at;
      after = c.remove.ensures.after ∙ found_removed s.frames c.args.frame c.in-Some.place s.once at;
    }
