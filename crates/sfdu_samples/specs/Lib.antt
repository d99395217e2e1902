pub mod Packing
pub mod Bits
pub mod Calls
pub mod RoundTrip
pub mod inner
pub mod Rates
