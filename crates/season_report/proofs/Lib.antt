pub mod Names
pub mod Sheets
