pub mod Making
pub mod Numbered
