-- What a machine ends as, where its page store is lent.
use Rattle.std.specs.Prelude.{Option}
use Rattle.std.specs.Borrow.{Fml, Lends, LendsIf, MutBor, RattleType}
use Rattle.machine.specs.declared.machine.Machine.{Machine}
use Rattle.machine.specs.contracts.machine.Machine.{the_row}

-- The machine with another page store.
abbrev pub with_store : {X Y Z : Type 0} → Machine X Y Z → Z → Machine X Y Z
with_store m s = record m { own = record m.own { store = s } }

-- The machine ends with the page store as it was last left through r.
abbrev pub LendsStore : (T P S : RattleType) → MutBor (Machine T.Denot P.Denot S.Denot) → MutBor S.Denot → Fml
LendsStore T P S m r = Lends (the_row T P S) S m r (with_store m.now)

-- The machine ends so where its page store is lent, and as it was where it is not.
abbrev pub LendsStoreIf : (T P S : RattleType) → MutBor (Machine T.Denot P.Denot S.Denot) → Option (MutBor S.Denot) → Fml
LendsStoreIf T P S m r = LendsIf (the_row T P S) S m r (with_store m.now) m.now
