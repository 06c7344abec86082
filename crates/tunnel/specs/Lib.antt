pub mod Refusal
pub mod Exact
pub mod Place
pub mod Point
pub mod Depth
pub mod inner
