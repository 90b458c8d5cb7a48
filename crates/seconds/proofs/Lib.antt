pub mod Seconds
pub mod Parts
pub mod Merges
