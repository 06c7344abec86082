pub mod Index
pub mod Outcome
pub mod Held
pub mod Walked
pub mod inner
