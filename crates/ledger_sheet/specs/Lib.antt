-- The definitions that contracts of `ledger_sheet` cite, and the words of the ledger's answers.
pub mod Sheet
pub mod Words
pub mod Outcome
pub mod inner
