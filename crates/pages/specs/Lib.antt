-- Statements: Numbers, Store and Runs.
-- Proofs of laws: none.
pub mod Numbers
pub mod Store
pub mod Runs
