pub mod Offset
pub mod ZoneRule
pub mod Onset
