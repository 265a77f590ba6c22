-- Statements: Plain.
-- Proofs of laws, here since a ghost member names them: Slots.
pub mod Plain
pub mod Slots
