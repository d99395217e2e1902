pub mod Table
pub mod Judge
pub mod Words
