-- Statements: Translator, Layers, Runs and Printed.
-- Proofs of laws: Walked, Held and Layered. Ghost members name those of Walked and Layered, which rests on Held.
pub mod Translator
pub mod Layers
pub mod Runs
pub mod Printed
pub mod Walked
pub mod Held
pub mod Layered
