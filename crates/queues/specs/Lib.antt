-- Statements: Links, Five, Names and Laws.
-- Proofs of laws: Parted, Weight and Lawful, for ghost members; the five behind them, on the links, serve proofs/ alone.
pub mod Links
pub mod Five
pub mod Names
pub mod Laws
pub mod Parted
pub mod Weight
pub mod Lawful
pub mod Rings
pub mod Linking
pub mod Unlinking
pub mod Operations
pub mod Played
