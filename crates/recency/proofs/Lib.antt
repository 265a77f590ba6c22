pub mod Look
pub mod Turn
pub mod Count
