pub mod Calendar
pub mod Answers
pub mod Table
pub mod Laws
pub mod inner
