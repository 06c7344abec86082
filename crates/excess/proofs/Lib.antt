pub mod Portions
pub mod Readings
pub mod Owned
pub mod Leans
pub mod Sent
pub mod Takes
pub mod Strays
