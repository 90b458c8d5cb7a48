pub mod ComponentEvents
pub mod ComponentPropertiesLaws
pub mod ComponentRules
pub mod EntryRows
pub mod Events
pub mod Sizes
