pub mod Depths
pub mod Invert
