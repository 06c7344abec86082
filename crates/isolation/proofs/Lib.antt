pub mod Parted
pub mod Carried
pub mod Recorded
pub mod Done
pub mod Isolated
pub mod Exception
pub mod Balanced
pub mod Turned
