pub mod Lists
pub mod VEvents
pub mod Instances
pub mod Keeping
pub mod Rules
pub mod Examples
