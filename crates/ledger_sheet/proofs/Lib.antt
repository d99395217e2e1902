pub mod Ranges
pub mod Desks
pub mod Clauses
pub mod Answers
pub mod RowsRead
