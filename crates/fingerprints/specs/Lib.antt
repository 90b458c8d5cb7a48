pub mod Fingerprints
pub mod Columns
