pub mod Reflected
pub mod Answers
pub mod Kept
pub mod Unique
