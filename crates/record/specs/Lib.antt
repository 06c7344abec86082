pub mod Bytes
pub mod Places
pub mod Layout
pub mod Reading
pub mod Writing
pub mod Back
pub mod Promise
pub mod inner
