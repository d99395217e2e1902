pub mod Filled
pub mod Rows
pub mod Underway
pub mod Columns
