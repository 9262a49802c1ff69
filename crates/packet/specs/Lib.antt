pub mod Properties
pub mod Store
