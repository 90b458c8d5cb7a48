pub mod Runs
pub mod Inserting
pub mod Tables
pub mod Columns
pub mod SecondsLaws
pub mod Examples
pub mod Spans
