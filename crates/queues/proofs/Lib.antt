pub mod Moved
pub mod Order
