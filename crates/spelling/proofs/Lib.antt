pub mod Widths
pub mod Putting
