pub mod Advances
pub mod Entrance
