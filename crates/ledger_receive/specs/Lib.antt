pub mod Visits
pub mod Receive
pub mod Laws
pub mod Histories
pub mod inner
