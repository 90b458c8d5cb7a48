pub mod Refusals
pub mod Offsets
pub mod Stages
pub mod Sentences
