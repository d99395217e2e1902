pub mod Places
pub mod Listings
pub mod Passed
pub mod Laws
pub mod Enough
pub mod Shortest
pub mod Words
