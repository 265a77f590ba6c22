-- Statements: Digests, Hexadecimal, Memory, Entries, Lines, Records and Slots.
-- Proofs of laws: none.
pub mod Digests
pub mod Hexadecimal
pub mod Memory
pub mod Entries
pub mod Lines
pub mod Records
pub mod Slots
