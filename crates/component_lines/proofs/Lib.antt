pub mod LinesStoring
pub mod Lines
pub mod Identities
