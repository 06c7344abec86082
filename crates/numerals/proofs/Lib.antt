pub mod Runs
pub mod Digits
pub mod Signs
pub mod Words
