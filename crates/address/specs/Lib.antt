pub mod Address
pub mod Properties
