pub mod Tests
pub mod Ranges
pub mod Trials
pub mod FilterRules
