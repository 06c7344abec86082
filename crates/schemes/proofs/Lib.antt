pub mod Tests
pub mod Passing
pub mod Answers
pub mod Unique
