pub mod Lent
pub mod Accepted
pub mod Listed
