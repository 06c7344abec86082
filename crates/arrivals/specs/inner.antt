-- What inner functions ask and leave. Nothing of it need be believed: a call's own promise says what it gives without it.
pub mod Trade
pub mod Sources
