pub mod Sweeps
pub mod SurfaceSwept
