pub mod Code
pub mod Link
pub mod Part
pub mod Properties
pub mod Reply
pub mod Status
pub mod Step
pub mod Unique
