pub mod Marking
pub mod Walked
