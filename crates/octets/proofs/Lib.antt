pub mod Laws
pub mod Parts
pub mod Puts
pub mod Lists
