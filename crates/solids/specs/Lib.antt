pub mod Invert
pub mod inner
