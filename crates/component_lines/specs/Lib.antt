pub mod Identities
pub mod Lines
