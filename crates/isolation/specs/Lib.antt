pub mod Deeds
pub mod History
pub mod Courses
pub mod Claims
