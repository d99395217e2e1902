pub mod Stops
pub mod Room
pub mod Window
