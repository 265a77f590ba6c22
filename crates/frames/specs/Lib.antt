-- Statements: Held, Keys, Policy and Runs.
-- Proofs of laws: none.
pub mod Held
pub mod Keys
pub mod Policy
pub mod Runs
