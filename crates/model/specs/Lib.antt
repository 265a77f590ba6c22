-- Statements: World, Layout, Refusals, Steps, Ipl, Flat, Law, Tests and Certain.
-- Proofs of laws: none.
pub mod World
pub mod Layout
pub mod Refusals
pub mod Steps
pub mod Ipl
pub mod Flat
pub mod Law
pub mod Tests
pub mod Certain
