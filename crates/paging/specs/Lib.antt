-- Statements: Seen.
-- Proofs of laws: none.
pub mod Seen
