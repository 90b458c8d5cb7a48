pub mod Tests
pub mod RangesLaws
pub mod TrialsLaws
pub mod FilterRules
