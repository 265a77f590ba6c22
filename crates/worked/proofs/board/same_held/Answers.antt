use Rattle.std.proofs.Common.{rules, tests}
use Rattle.std.proofs.lemmas.Slice.Eq.{slice_eq-Decides}
use Rattle.worked.proofs.board.same_held.Goals as goal

pub returns : goal.returns
returns c = slice_eq-Decides (λ a b. search (rules, tests)) _ _ _ c.eq.ensures
