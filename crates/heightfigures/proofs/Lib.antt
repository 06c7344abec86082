pub mod Stars
pub mod Maps
