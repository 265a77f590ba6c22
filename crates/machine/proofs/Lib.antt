pub mod Bits
pub mod Called
