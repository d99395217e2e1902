pub mod Calls
pub mod Records
pub mod Worked
