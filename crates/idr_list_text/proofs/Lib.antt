pub mod Found
pub mod Streams
pub mod Pieces
pub mod Promised
