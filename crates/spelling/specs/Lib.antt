pub mod Spelling
pub mod inner
