pub mod Bools
pub mod Keeps
