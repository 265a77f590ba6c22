pub mod ToldApart
pub mod Computed
pub mod Refuted
pub mod Governed
