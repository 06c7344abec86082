pub mod Decimal
pub mod Room
pub mod Signed
pub mod inner
