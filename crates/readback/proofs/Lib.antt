pub mod Spelled
pub mod Words
pub mod HeaderBack
pub mod RowsBack
pub mod Returned
pub mod Longest
