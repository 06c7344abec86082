pub mod Reflected
pub mod Answers
pub mod Made
pub mod Kept
pub mod Unique
