pub mod ReadBack
pub mod Demand3
pub mod Every
pub mod Private
pub mod Contracts
