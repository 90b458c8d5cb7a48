pub mod Instances
pub mod TimeRange
pub mod Candidates
pub mod Blocks
