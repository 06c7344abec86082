pub mod Deepest
pub mod Written
pub mod Passed
pub mod Telling
pub mod Answered
