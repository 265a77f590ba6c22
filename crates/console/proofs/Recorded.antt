-- The records of the first frames, one after another.
use Rattle.std.proofs.Common.{◌≡◌, ℕ, ◌+◌, List, [], ◌∷◌, ◌++◌, add-one}
use Rattle.model.specs.declared.shape.FrameRecord.{FrameRecord}
use Rattle.table.specs.Table.{record_in}
use Rattle.console.specs.Boards.{records_below}

-- One frame more.
pub more : (records : List FrameRecord) (n : ℕ) → records_below records (n + 1) ≡ records_below records n ++ (record_in records n ∷ [])
unfolding records_below
more records n = rw add-one
