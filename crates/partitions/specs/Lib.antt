-- Statements: Partitions. It has one proof too, made_same, that a ghost member names.
-- Proofs of laws: no file of their own.
pub mod Partitions
