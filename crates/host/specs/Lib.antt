-- The definitions that contracts of `host` cite.
pub mod Exported
pub mod Received
pub mod Seasons
pub mod Answer
pub mod inner
