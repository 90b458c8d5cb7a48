pub mod Times
pub mod Rule
pub mod RuleGrammar
pub mod Period
pub mod TimeLists
pub mod Given
