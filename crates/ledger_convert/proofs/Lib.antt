pub mod Ranges
pub mod Clauses
pub mod Read
pub mod Laying
pub mod Laws
pub mod Contracts
