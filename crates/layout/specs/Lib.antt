-- Statements: Config.
-- Proofs of laws: none.
pub mod Config
