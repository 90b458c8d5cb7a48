pub mod ExcludedLaws
pub mod AloneLaws
pub mod RowKinds
pub mod Contents
pub mod WalksLaws
