pub mod CalendarTerms
pub mod CollectStages
pub mod Collecting
