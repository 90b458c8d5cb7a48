pub mod ComponentEvents
pub mod ComponentProperties
pub mod ComponentRules
pub mod EntryRows
pub mod Events
pub mod Sizes
