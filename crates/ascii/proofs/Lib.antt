pub mod Bools
pub mod Lists
pub mod Bytes
pub mod Names
pub mod Rows
