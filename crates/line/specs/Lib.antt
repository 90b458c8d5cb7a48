pub mod Grammar
pub mod Scanner
pub mod Splitting
pub mod Reading
pub mod WellFormed
pub mod Rendering
pub mod File
