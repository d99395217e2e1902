pub mod State
pub mod Failure
pub mod Listing
pub mod Run
pub mod Turn
pub mod Window
pub mod inner
