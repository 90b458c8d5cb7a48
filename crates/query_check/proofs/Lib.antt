pub mod WellFormed
pub mod QueryRules
pub mod Examples
