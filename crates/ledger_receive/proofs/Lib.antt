pub mod Visits
pub mod Sheets
pub mod Arrivals
pub mod Rounds
pub mod Receives
pub mod Laws
pub mod Histories
pub mod Again
