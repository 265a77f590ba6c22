use Rattle.std.proofs.Common.{◌≡◌, is_none, get_or, true, false, None, arith, rules}
use Rattle.queues.proofs.Moved.{free_same, free_unheld, held_yes, out_linked, out_is}
use Rattle.queues.proofs.linked.LinkedQueues.unlink.Goals as goal

pub returns-then-is_none : goal.returns-then-is_none
returns-then-is_none c =
    let s = c.self.inside in
    let free : is_none (get_or s.place c.args.frame None) ≡ true = search rules in
    record {
      answer = free_unheld s.next s.prev s.place s.first c.args.frame c.args.self.now c.self.invariant c.self.view_is (omega arith) free;
      after = free_same s.next s.prev s.place s.first c.args.frame c.args.self.now c.self.invariant c.self.view_is (omega arith) free;
    }

pub invariant_of-self : goal.invariant_of-self
invariant_of-self c =
    let s = c.self.inside in
    let held : is_none (get_or s.place c.args.frame None) ≡ false = search rules in
    out_linked s.next s.prev s.place s.first c.args.frame c.args.self.now c.self.invariant c.self.view_is (omega arith) held c.lead.new.self c.lead-2.new.self (search rules) (search rules)

pub returns : goal.returns
returns c =
    let s = c.self.inside in
    let held : is_none (get_or s.place c.args.frame None) ≡ false = search rules in
    record {
      answer = held_yes s.next s.prev s.place s.first c.args.frame c.args.self.now c.self.invariant c.self.view_is (omega arith) held;
      after = out_is s.next s.prev s.place s.first c.args.frame c.args.self.now c.self.invariant c.self.view_is (omega arith) held c.lead.new.self c.lead-2.new.self (search rules) (search rules);
    }
