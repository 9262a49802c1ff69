pub mod Properties
pub mod Step
pub mod Unique
