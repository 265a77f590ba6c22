pub mod Playing
pub mod Handing
