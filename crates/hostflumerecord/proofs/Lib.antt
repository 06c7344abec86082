pub mod FlagSpan
pub mod Returned
pub mod Told
pub mod Unique
