pub mod Weighed
pub mod Fills
