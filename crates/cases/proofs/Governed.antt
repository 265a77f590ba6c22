-- The laws, of the worked machine.
use Rattle.std.proofs.Common.{refl, arith}
use Rattle.dataset.specs.Slots.{set_lawful}
use Rattle.model.proofs.Runs.{law_of, steady_of}
use Rattle.model.specs.World.{GoodParts, LawfulParts}
use Rattle.queues.specs.Lawful.{five_lawful}
use Rattle.translation.specs.Layered.{tlb_lawful}
use Rattle.translation.specs.Walked.{walker_lawful}
use Rattle.translation.specs.Layers.{walker_rules}
use Rattle.cases.proofs.Computed.{cases}
use Rattle.cases.specs.Governed.{Governed}
use Rattle.cases.specs.Worked.{parts, ready, sizes, wired}

lawful : LawfulParts parts
lawful = record { translator = tlb_lawful walker_rules walker_lawful; policy = five_lawful; store = set_lawful }

good : GoodParts parts wired.translator wired.policy wired.store
good = record { translator = (tt, omega arith); policy = λ f. (omega arith, λ h. refl); store = tt }

pub governed : Governed
unfolding ready
governed = record {
  lawful = lawful;
  good = good;
  whole = λ calls. law_of parts lawful sizes wired good cases.a.started calls;
  disturbed = λ calls. steady_of parts lawful sizes wired good cases.a.started calls;
}
