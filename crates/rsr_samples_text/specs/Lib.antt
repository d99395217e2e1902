pub mod Text
pub mod Part
pub mod Laws
pub mod inner
