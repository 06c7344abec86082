pub mod Opened
pub mod Tested
pub mod Filled
pub mod Loaded
pub mod Unique
