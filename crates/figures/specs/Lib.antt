pub mod Cases
pub mod Gutter
pub mod Surface
pub mod Table
pub mod Turbulent
pub mod Lakes
pub mod Designers
