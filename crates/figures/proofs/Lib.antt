pub mod Lakes
pub mod Designers
pub mod Turbulent
pub mod Stars
pub mod RuledOut
pub mod Sweeps
