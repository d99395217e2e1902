-- The definitions that contracts of `ledger_changes` cite.
pub mod inner
