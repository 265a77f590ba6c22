-- Statements: Numbers, Marks, Format and Laws.
-- Proofs of laws: Opening, Formed and Slots. A ghost member names that of Slots, which rests on the other two.
pub mod Numbers
pub mod Marks
pub mod Format
pub mod Laws
pub mod Opening
pub mod Formed
pub mod Slots
