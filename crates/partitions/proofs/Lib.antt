pub mod Apart
pub mod Searched
