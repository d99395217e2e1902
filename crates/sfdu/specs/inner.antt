pub mod Checked
pub mod Numbered
