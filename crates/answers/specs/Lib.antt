-- The definitions that contracts of `answers` cite.
pub mod Dates
pub mod Numbers
pub mod Streams
pub mod Tapes
pub mod inner
