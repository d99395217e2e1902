pub mod Gaps
pub mod Calls
pub mod Laws
pub mod Blocks
