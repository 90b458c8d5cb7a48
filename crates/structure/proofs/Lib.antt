pub mod RowsLaws
pub mod ItemsLaws
pub mod Reading
