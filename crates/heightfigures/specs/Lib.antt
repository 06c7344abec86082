pub mod Texts
pub mod Numbers
pub mod Inverts
pub mod Maps
