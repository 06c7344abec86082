pub mod Bracket
pub mod Dots
pub mod Each
pub mod Ends
pub mod Landed
pub mod Loss
pub mod Rates
