-- The definitions that contracts of `octets` and of other crates cite.
pub mod Ascii
pub mod Octets
pub mod Lists
pub mod inner
