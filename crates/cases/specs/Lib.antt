-- Statements: Table, Worked, Cases, LosingFaults and Governed.
-- Proofs of laws: none.
pub mod Table
pub mod Worked
pub mod Cases
pub mod LosingFaults
pub mod Governed
