pub mod BusyPeriods
pub mod Covered
pub mod Pieces
pub mod Columns
pub mod ColumnsStoring
