pub mod Periods
pub mod BusyTypes
