pub mod Steps
pub mod Coherent
