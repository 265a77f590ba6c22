pub mod Recorded
pub mod Fronts
