-- Statements: Rules.
-- Proofs of laws, here since a ghost member names them: Laws.
pub mod Rules
pub mod Laws
