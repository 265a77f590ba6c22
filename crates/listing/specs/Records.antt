-- The bytes of the frame table, as a digest takes them in.
use Rattle.std.specs.Prelude.{ℕ, ◌/◌, ◌%◌, List, [], ◌∷◌}
use Rattle.std.specs.List.{flat_map}
use Rattle.model.specs.declared.shape.FrameRecord.{FrameRecord}

-- The page of a record, high byte first, and its fix count.
abbrev pub record_bytes : FrameRecord → List ℕ
record_bytes r = r.page / 256 ∷ r.page % 256 ∷ r.fixes ∷ []

-- Those of some records, in order.
abbrev pub records_bytes : List FrameRecord → List ℕ
records_bytes records = flat_map record_bytes records
