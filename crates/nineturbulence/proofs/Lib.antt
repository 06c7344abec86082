pub mod Fours
pub mod Same
