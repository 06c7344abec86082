pub mod Effects
pub mod Checked
pub mod Acting
pub mod Amounts
pub mod Balance
pub mod Kept
pub mod Base
pub mod Living
