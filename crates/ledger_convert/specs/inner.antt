pub mod Laid
pub mod Sized
