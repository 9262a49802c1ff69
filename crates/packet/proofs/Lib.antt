pub mod Properties
pub mod Filled
pub mod Unique
