pub mod OffsetLaws
pub mod OnsetLaws
pub mod ZoneRuleLaws
pub mod Sizes
