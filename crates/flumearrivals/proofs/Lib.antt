pub mod Nines
