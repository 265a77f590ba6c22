pub mod Values
pub mod Named
pub mod FirstWord
pub mod Faulty
pub mod WordFaulty
