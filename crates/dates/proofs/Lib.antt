pub mod Laws
pub mod Rule
pub mod Computed
pub mod Mean
pub mod Contracts
