-- The numbers under which an operator knows the refusals of commands.
use Rattle.std.specs.Prelude.{ℕ}
use Rattle.dataset.specs.Numbers.{open_number}
use Rattle.model.specs.Refusals.{number_of as call_number}
use Rattle.pages.specs.Numbers.{refusal_number}
use Rattle.tables.specs.Walk.{number_of as walk_number}
use Rattle.console.specs.declared.answer.Refusal.{Refusal}
use Rattle.console.specs.declared.answer.Refusal.TheVariants.{Walk, Store, Open, Call}

abbrev pub number_of : Refusal → ℕ
number_of (Walk why) = walk_number why
number_of (Store why) = refusal_number why
number_of (Open why) = open_number why
number_of (Call why) = call_number why
