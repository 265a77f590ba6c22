use Rattle.std.proofs.Common.{rules, arith}
use Rattle.state.proofs.Counting.{recounted, uncounted}
use Rattle.state.proofs.state.State.set_fixes.Goals as goal

pub overflow_sub-self : goal.overflow_sub-self
overflow_sub-self c =
    (recounted c.self.inside.layout c.self.inside.table c.set_fixes.new.self c.args.frame c.args.fixes c.self.inside.fixed c.self.invariant
    c.set_fixes.ensures.long (omega arith) c.set_fixes.ensures.one c.counts-then-is_pageable.result c.counts.result (search rules) (search rules) (search rules)).0

pub invariant_of-self : goal.invariant_of-self
invariant_of-self c =
    (recounted c.self.inside.layout c.self.inside.table c.set_fixes.new.self c.args.frame c.args.fixes c.self.inside.fixed c.self.invariant
    c.set_fixes.ensures.long (omega arith) c.set_fixes.ensures.one c.counts-then-is_pageable.result c.counts.result (search rules) (search rules) (search rules)).1

pub invariant_of-self-else-is_pageable : goal.invariant_of-self-else-is_pageable
invariant_of-self-else-is_pageable c =
    uncounted c.self.inside.layout c.self.inside.table c.set_fixes.new.self c.args.frame c.args.fixes c.self.inside.fixed c.self.invariant
    c.set_fixes.ensures.long (omega arith) c.set_fixes.ensures.one (search rules)
