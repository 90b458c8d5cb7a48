pub mod TimesLaws
pub mod RuleLaws
pub mod RuleGrammar
pub mod PeriodLaws
pub mod TimeLists
pub mod Splits
pub mod GivenLaws
