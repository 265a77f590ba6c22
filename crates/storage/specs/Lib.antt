-- Statements: Bytes, Laws and Numbers. Numbers ends with two proofs, half_laws and word_laws, that ghost members name.
-- Proofs of laws: Over, which those two apply.
pub mod Bytes
pub mod Laws
pub mod Numbers
pub mod Over
