-- The definitions that contracts of `season_report_text` cite.
pub mod Page
pub mod inner
