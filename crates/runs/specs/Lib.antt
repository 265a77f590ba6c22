-- Statements: Whole and Disturbed.
-- Proofs of laws: none.
pub mod Whole
pub mod Disturbed
