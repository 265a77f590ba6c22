pub mod Encoded
pub mod Listed
pub mod Joined
