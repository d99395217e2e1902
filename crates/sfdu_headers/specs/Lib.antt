pub mod Words
pub mod Fields
pub mod Ranges
pub mod Headers
pub mod Keys
pub mod inner
pub mod RsrRecord
