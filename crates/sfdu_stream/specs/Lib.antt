pub mod Walk
pub mod Listing
pub mod Laws
pub mod Room
pub mod inner
