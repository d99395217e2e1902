pub mod Within
pub mod Century
