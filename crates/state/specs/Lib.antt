-- Statements: Bare.
-- Proofs of laws: none.
pub mod Bare
