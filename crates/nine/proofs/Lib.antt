pub mod Doubled
pub mod Lands
pub mod Pasted
pub mod Places
pub mod Weighed
