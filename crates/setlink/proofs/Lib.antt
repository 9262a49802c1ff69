pub mod Codes
pub mod Copper
pub mod Properties
pub mod Unique
