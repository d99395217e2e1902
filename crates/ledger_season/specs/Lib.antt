-- The definitions that contracts of `ledger_season` cite, and what holds of the season's report.
pub mod Report
pub mod Season
pub mod Laws
pub mod Identity
pub mod inner
