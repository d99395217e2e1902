pub mod Unpacking
pub mod Stored
pub mod Widths
