pub mod Arguments
pub mod Hex
pub mod Words
