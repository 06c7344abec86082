pub mod Fairness
pub mod Taking
pub mod ReadBy
