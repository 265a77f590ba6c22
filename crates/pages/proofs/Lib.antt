pub mod Refusals
pub mod Running
