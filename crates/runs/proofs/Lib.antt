pub mod Outcomes
pub mod Unique
pub mod Lives
pub mod Kept
