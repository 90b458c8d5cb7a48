pub mod NestingLaws
pub mod WellNested
pub mod Faults
pub mod Examples
