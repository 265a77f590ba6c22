-- The numbers under which an operator knows the refusals of a page data set.
use Rattle.std.specs.Prelude.{ℕ}
use Rattle.dataset.specs.declared.refusal.OpenRefusal.{OpenRefusal}
use Rattle.dataset.specs.declared.refusal.OpenRefusal.TheVariants.{TooShort, OtherPageSize, TooManySlots, OtherLength, UnknownMark}
use Rattle.dataset.specs.declared.refusal.MarkRefusal.{MarkRefusal}
use Rattle.dataset.specs.declared.refusal.MarkRefusal.TheVariants.{NoSuchSlot, NotDataSet}

abbrev pub open_number : OpenRefusal → ℕ
open_number TooShort = 53
open_number OtherPageSize = 53
open_number TooManySlots = 53
open_number OtherLength = 53
open_number UnknownMark = 53

abbrev pub mark_number : MarkRefusal → ℕ
mark_number NoSuchSlot = 50
mark_number (NotDataSet why) = open_number why
