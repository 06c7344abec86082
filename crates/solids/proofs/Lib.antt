pub mod Heights
pub mod Spread
pub mod Inverts
