pub mod Refused
pub mod Meaning
pub mod ComponentRules
pub mod Checks
pub mod Periods
pub mod FirstFaults
pub mod Identities
pub mod Passes
