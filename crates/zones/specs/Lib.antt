pub mod Parts
pub mod RuleDays
pub mod Onsets
pub mod Offsets
pub mod PartRows
pub mod Changes
pub mod Examples
