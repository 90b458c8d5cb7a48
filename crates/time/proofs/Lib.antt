pub mod Below
pub mod Stores
pub mod DaysLaws
pub mod DateTime
pub mod LimitsLaws
pub mod DurationLaws
pub mod WritingLaws
pub mod Grammar
