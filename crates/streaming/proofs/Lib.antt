pub mod Promised
pub mod Reading
pub mod Turning
pub mod Labels
