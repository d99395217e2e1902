pub mod Bits
pub mod Rates
pub mod Header
pub mod Given
pub mod Judging
pub mod Worked
pub mod Answers
pub mod Ranges
