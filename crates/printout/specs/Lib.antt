pub mod Lines
pub mod Printout
pub mod Properties
