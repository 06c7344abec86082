pub mod Held
pub mod Trades
pub mod Spans
pub mod Leans
pub mod Arrivals
