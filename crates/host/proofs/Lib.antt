pub mod Exports
pub mod Days
pub mod InAll
pub mod Parts
pub mod Bytes
