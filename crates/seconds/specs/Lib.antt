pub mod Seconds
pub mod Parts
