pub mod Answers
pub mod Unique
pub mod Kept
pub mod Alone
pub mod Dried
pub mod Figures
