pub mod Headers
pub mod Rowing
pub mod Stores
