use Rattle.std.proofs.Common.{◌≡◌, is_none, get_or, true, false, None, arith, rules}
use Rattle.queues.proofs.Moved.{held_taken, held_same, free_yes, in_linked, in_is}
use Rattle.queues.proofs.linked.LinkedQueues.link.Goals as goal

pub returns-then-is_some : goal.returns-then-is_some
returns-then-is_some c =
    let s = c.self.inside in
    let held : is_none (get_or s.place c.args.frame None) ≡ false = search rules in
    record {
      answer = held_taken s.next s.prev s.place s.first c.args.frame c.args.self.now c.self.invariant c.self.view_is (omega arith) held;
      after = held_same s.next s.prev s.place s.first c.args.frame c.args.self.now c.self.invariant c.self.view_is (omega arith) held _;
    }

pub invariant_of-self : goal.invariant_of-self
invariant_of-self c =
    let s = c.self.inside in
    let free : is_none (get_or s.place c.args.frame None) ≡ true = search rules in
    in_linked s.next s.prev s.place s.first c.args.frame c.args.self.now c.self.invariant c.self.view_is (omega arith) free
    c.args.queue c.number-number.result c.lead-2.new.self c.lead-4.new.self c.number-number.ensures (search rules) (search rules)

pub returns : goal.returns
returns c =
    let s = c.self.inside in
    let free : is_none (get_or s.place c.args.frame None) ≡ true = search rules in
    record {
      answer = free_yes s.next s.prev s.place s.first c.args.frame c.args.self.now c.self.invariant c.self.view_is (omega arith) free;
      after = in_is s.next s.prev s.place s.first c.args.frame c.args.self.now c.self.invariant c.self.view_is (omega arith) free
          c.args.queue c.number-number.result c.lead-2.new.self c.lead-4.new.self c.number-number.ensures (search rules) (search rules);
    }
