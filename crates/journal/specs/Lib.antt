pub mod Example
pub mod Feeding
pub mod Format
pub mod History
pub mod Journal
pub mod Properties
