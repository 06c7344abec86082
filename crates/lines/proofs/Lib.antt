pub mod Rooms
pub mod Stepping
pub mod Lines
pub mod Going
pub mod Demands
