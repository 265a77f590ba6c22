-- Statements: Reference.
-- Proofs of laws: none.
pub mod Reference
