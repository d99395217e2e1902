pub mod Numbers
pub mod Read
pub mod Stops
pub mod Taken
