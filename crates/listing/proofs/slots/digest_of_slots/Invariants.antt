use Rattle.std.proofs.Common.{◌≡◌}
use Rattle.listing.specs.Digests.{basis, digest_from}
use Rattle.listing.specs.Slots.{slots_bytes}
use Rattle.listing.proofs.slots.digest_of_slots.Given as goal

abbrev pub invariant-loop-slot : goal.invariant-loop-slot
invariant-loop-slot g l =
    l.digest ≡ digest_from basis (slots_bytes g.S.PageStore.rules (g.S.PageStore.model l.store) l.slot)
