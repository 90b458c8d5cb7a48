pub mod Days
pub mod DateTime
pub mod Limits
pub mod Duration
pub mod Writing
pub mod Grammar
