pub mod Gathering
pub mod LinkRows
