-- The definitions that contracts of `ledger_answers` cite.
pub mod Seasons
pub mod inner
