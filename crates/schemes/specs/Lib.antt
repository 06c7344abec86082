pub mod Scheme
pub mod Outcome
pub mod Promise
pub mod inner
