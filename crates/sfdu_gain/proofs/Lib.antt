pub mod Judged
pub mod Words
pub mod Agreed
pub mod Contracts
