pub mod Missing
pub mod Laws
pub mod inner
