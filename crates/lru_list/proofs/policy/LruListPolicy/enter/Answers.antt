use Rattle.std.proofs.Common.{sym, subst, arith, rules}
use Rattle.frames.specs.Held.{Once}
use Rattle.lru_list.specs.Laws.{once_entered}
use Rattle.lru_list.proofs.Kept.{some_taken, none_free, put_new, refused}
use Rattle.lru_list.proofs.policy.LruListPolicy.enter.Goals as goal

pub returns-then-is_some : goal.returns-then-is_some
returns-then-is_some c =
    let s = c.args.self.now in
    let no = some_taken s.frames c.args.frame c.place.result s.once c.place.ensures c.if-is_some.ensures in
    record { answer = no; after = refused s.frames c.args.frame no }

pub invariant_of-self : goal.invariant_of-self
invariant_of-self c =
    let s = c.args.self.now in
    let yes = none_free s.frames c.args.frame c.place.result (omega arith) c.place.ensures c.if-is_some.ensures in
    let is = put_new s.frames c.put.new.self c.args.frame c.in-Ok.number s.once yes (search rules) c.put.ensures.after in
    record { once = subst Once (sym is) (once_entered s.frames c.args.frame s.once) }

pub returns : goal.returns
returns c =
    let s = c.args.self.now in
    let yes = none_free s.frames c.args.frame c.place.result (omega arith) c.place.ensures c.if-is_some.ensures in
    record { answer = yes; after = put_new s.frames c.put.new.self c.args.frame c.in-Ok.number s.once yes (search rules) c.put.ensures.after }
