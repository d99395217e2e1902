-- Demand 3 and request 09 for the ledger's calls; and that every list of calls can be made.
pub mod Demand3
pub mod Every
pub mod Private
