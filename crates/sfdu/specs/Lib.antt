pub mod Nesting
pub mod Read
pub mod Nested
pub mod Within
pub mod inner
