pub mod Facts
pub mod Properties
