-- Statements: Numbers, Words, Said, Starts, Wirings, Verbs, Commands, Faults and Lines.
-- Proofs of laws: none.
pub mod Numbers
pub mod Words
pub mod Said
pub mod Starts
pub mod Wirings
pub mod Verbs
pub mod Commands
pub mod Faults
pub mod Lines
