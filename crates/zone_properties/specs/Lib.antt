pub mod ZoneProperties
pub mod Parts
