pub mod Rules
pub mod Demand3
pub mod Scans
