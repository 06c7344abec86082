-- Laws of whole numbers, tests, sums and lists with their proofs: tools of the proofs above. Nothing of it need be believed.
pub mod Bools
pub mod Parts
pub mod Ring
pub mod Order
pub mod Bounds
pub mod Machine
pub mod Tests
pub mod Casts
pub mod Quot
pub mod Sums
pub mod Search
pub mod Tab
pub mod Table
pub mod Counts
