pub mod Written
pub mod Again
pub mod Back
pub mod RoundTrip
pub mod Words
pub mod Contracts
