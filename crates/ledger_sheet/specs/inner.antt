pub mod Judging
pub mod Done
