pub mod Offsets
pub mod Refusals
pub mod Stages
pub mod Sentences
