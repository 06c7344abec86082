pub mod Nearests
pub mod Digits
pub mod Flagged
pub mod Questions
pub mod Answers
pub mod Loaded
pub mod Indexed
pub mod Unique
