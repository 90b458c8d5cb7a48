pub mod Alone
pub mod EntryRows
pub mod Contents
pub mod Walks
