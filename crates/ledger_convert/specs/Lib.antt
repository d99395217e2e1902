-- The old sheet, and what the converter promises.
pub mod Old
pub mod Convert
pub mod Laws
pub mod inner
