pub mod Delimiters
pub mod Innermost
