pub mod Highest
pub mod Missing
pub mod BlockBits
pub mod BlockCounts
pub mod Reports
pub mod Starts
pub mod Beyond
