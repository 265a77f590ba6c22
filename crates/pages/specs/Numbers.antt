-- The numbers under which an operator knows the refusals of a page store.
use Rattle.std.specs.Prelude.{ℕ}
use Rattle.pages.specs.declared.fault.StoreRefusal.{StoreRefusal}
use Rattle.pages.specs.declared.fault.StoreRefusal.TheVariants.{WrongLength, NoSuchSlot, BadSlot}

abbrev pub refusal_number : StoreRefusal → ℕ
refusal_number WrongLength = 52
refusal_number NoSuchSlot = 50
refusal_number BadSlot = 51
