-- The definitions that contracts on sheets cite.
pub mod Ticks
pub mod Rows
pub mod Bytes
pub mod Layout
pub mod BothWays
pub mod Calls
pub mod Sizes
pub mod Demand3
pub mod inner
