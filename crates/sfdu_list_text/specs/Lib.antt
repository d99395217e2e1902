pub mod Text
pub mod Listing
pub mod OneWalk
pub mod Window
pub mod Run
pub mod inner
