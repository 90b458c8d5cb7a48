pub mod Answers
pub mod Matching
pub mod MatchStages
pub mod Reporting
pub mod ReportWriting
pub mod Sentences
pub mod Demands
