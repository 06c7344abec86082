pub mod Fold
pub mod laws
