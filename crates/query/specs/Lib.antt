pub mod Counting
pub mod Sections
pub mod Records
pub mod Fits
pub mod Layout
