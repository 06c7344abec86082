pub mod GoodSides
pub mod Offsets
pub mod Rows
pub mod Open
pub mod Rules
pub mod Checks
pub mod Entrance
pub mod Poise
