pub mod Counting
pub mod SectionsLaws
pub mod Records
pub mod Fits
pub mod LayoutLaws
