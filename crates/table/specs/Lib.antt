pub mod Runs
pub mod Inserting
pub mod Tables
pub mod Columns
pub mod Seconds
