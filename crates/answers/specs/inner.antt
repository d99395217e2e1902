pub mod Dates
pub mod Numbers
pub mod Parts
