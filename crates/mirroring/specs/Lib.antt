pub mod Turned
pub mod Outcome
pub mod Promise
pub mod Demands
pub mod inner
