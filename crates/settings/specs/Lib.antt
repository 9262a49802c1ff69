pub mod Enable
pub mod Layout
pub mod Properties
