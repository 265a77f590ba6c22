-- The worked machine meets all that the laws assume, so both hold of every run from its IPL.
use Rattle.std.specs.Prelude.{ℕ, List}
use Rattle.model.specs.declared.calls.Call.{Call}
use Rattle.model.specs.Flat.{blank}
use Rattle.model.specs.Law.{Sound, Steady}
use Rattle.model.specs.World.{GoodParts, LawfulParts}
use Rattle.cases.specs.Worked.{parts, ready, sizes, wired}

pub record Governed : Type 0 where
  pub lawful : LawfulParts parts
  pub good : GoodParts parts wired.translator wired.policy wired.store
  -- every list of calls, beside the flat machine
  pub whole : (calls : List Call) → Sound parts calls ready (blank sizes)
  -- every list of calls, each handed any main storage
  pub disturbed : (calls : List (List ℕ × Call)) → Steady parts calls ready
