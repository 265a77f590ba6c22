-- Statements: Held, Pairs and Marks.
-- Proofs of laws: none.
pub mod Held
pub mod Pairs
pub mod Marks
