pub mod Key
pub mod Numbers
pub mod Words
pub mod Stream
pub mod Laws
