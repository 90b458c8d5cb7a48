pub mod Lists
pub mod VEvents
pub mod Instances
pub mod Rules
pub mod Keeping
pub mod Examples
