pub mod Collision
pub mod Stillness
pub mod Turns
