pub mod Flume
pub mod Outcome
pub mod Promise
pub mod Cases
pub mod Table
pub mod inner
