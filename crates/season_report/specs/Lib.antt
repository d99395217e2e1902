-- The definitions that contracts of `season_report` cite.
pub mod Loaded
pub mod Told
pub mod inner
