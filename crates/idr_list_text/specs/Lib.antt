pub mod Text
pub mod Listing
pub mod Run
pub mod inner
