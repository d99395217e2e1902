pub mod Gain
pub mod Agreed
