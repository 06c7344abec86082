pub mod Fields
pub mod Newborns
pub mod Flumes
pub mod Turns
pub mod Settles
