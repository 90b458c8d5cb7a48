pub mod HeadsLaws
pub mod Writing
pub mod Bytes
pub mod Examples
