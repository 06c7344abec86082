pub mod Flags
pub mod Nine
pub mod Taking
pub mod ReadBy
