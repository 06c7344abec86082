pub mod Lattice
pub mod Cell
pub mod Body
pub mod inner
