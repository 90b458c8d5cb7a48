pub mod WellFormed
pub mod QueryRules
