pub mod Nesting
pub mod Components
pub mod WellNested
pub mod Faults
pub mod Files
