pub mod Dated
pub mod Parts
pub mod Fault
pub mod Numbers
pub mod Streams
pub mod Found
