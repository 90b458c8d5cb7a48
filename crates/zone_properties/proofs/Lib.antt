pub mod PartLaws
pub mod Examples
