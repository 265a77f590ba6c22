-- Statements: Refusals, Answers and Boards.
-- Proofs of laws: none.
pub mod Refusals
pub mod Answers
pub mod Boards
