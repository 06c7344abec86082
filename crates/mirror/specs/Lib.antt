pub mod Mirror
pub mod Demands
pub mod Flume
pub mod Cases
