-- Statements: Bits, Walk and Leads.
-- Proofs of laws: none.
pub mod Bits
pub mod Walk
pub mod Leads
