pub mod TextMatch
pub mod Unfolding
pub mod Lines
