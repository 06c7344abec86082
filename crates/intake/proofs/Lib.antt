pub mod Readings
pub mod FlagSpan
pub mod Unique
pub mod ReadKept
