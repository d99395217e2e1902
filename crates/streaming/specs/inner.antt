pub mod Reading
pub mod Turn
pub mod Writing
pub mod Stops
