pub mod Measuring
pub mod Texts
pub mod Storing
pub mod WrittenBy
pub mod Unique
