pub mod Poise
pub mod Puts
