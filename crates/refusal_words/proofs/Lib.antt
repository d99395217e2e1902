pub mod Same
pub mod Found
pub mod Right
pub mod Put
