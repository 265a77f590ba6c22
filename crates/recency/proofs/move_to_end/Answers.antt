use Rattle.std.proofs.Common.{refl}
use Rattle.recency.proofs.Turn.{turned}
use Rattle.recency.proofs.move_to_end.Goals as goal

pub returns-clause-after : goal.returns-clause-after
returns-clause-after g c = turned c.args.list.now _ c.args.place _ refl c.if-place-list.false c.rotate_left.ensures.after
