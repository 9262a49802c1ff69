pub mod Copper
pub mod Decide
pub mod Properties
pub mod Word
