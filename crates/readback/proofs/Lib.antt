pub mod ReadingLines
pub mod ReadingNested
pub mod Reading
