-- A record of the frame table, the loan of one, and the table with one record replaced.
use Rattle.std.specs.Prelude.{ℕ, List, slice_index_or, slice_set}
use Rattle.std.specs.Borrow.{Fml, Lends, MutBor}
use Rattle.model.specs.declared.shape.FrameRecord.{FrameRecord}
use Rattle.model.specs.contracts.shape.FrameRecord.{the_row as record-row}
use Rattle.model.specs.Layout.{fixes_in, page_in, vacant}
use Rattle.table.specs.contracts.FrameTable.{the_row}

-- The record of a frame.
abbrev pub record_in : List FrameRecord → ℕ → FrameRecord
record_in rs f = slice_index_or rs f vacant

-- The table ends with one record as it was last written through r, and the records of the other frames as they are.
abbrev pub LendsRecord : MutBor (List FrameRecord) → ℕ → MutBor FrameRecord → Fml
LendsRecord t f r = Lends the_row record-row t r (slice_set t.now f)

-- The records with another page for one frame, its fix count kept; and with another fix count, its page kept.
abbrev pub with_page : List FrameRecord → ℕ → ℕ → List FrameRecord
with_page rs f p = slice_set rs f (record { page = p; fixes = fixes_in rs f })

abbrev pub with_fixes : List FrameRecord → ℕ → ℕ → List FrameRecord
with_fixes rs f n = slice_set rs f (record { page = page_in rs f; fixes = n })
