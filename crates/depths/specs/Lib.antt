pub mod Map
pub mod Outcome
pub mod inner
