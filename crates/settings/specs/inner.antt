pub mod Widths
pub mod Sized
pub mod Known
pub mod New
pub mod Numbered
