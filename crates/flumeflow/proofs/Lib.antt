pub mod Gains
pub mod Spread
