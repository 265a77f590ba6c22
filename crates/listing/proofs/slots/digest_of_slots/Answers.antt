use Rattle.listing.proofs.Joined.{slots-none, slots-more}
use Rattle.listing.proofs.slots.digest_of_slots.Goals as goal

pub loop-slot-init : goal.loop-slot-init
loop-slot-init g c = slots-none _ _ _ c.new-digest.ensures

pub loop-slot-preserved : goal.loop-slot-preserved
loop-slot-preserved g c = slots-more _ _ _ _ _ c.loop-slot.invariant c.add_slot.ensures
