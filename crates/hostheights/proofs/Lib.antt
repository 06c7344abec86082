pub mod Depths
pub mod Told
pub mod Unique
