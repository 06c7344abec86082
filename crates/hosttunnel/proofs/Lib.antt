pub mod Returned
pub mod Told
pub mod Depths
pub mod Points
pub mod Unique
