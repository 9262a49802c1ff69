pub mod AllRows
pub mod FreshStates
pub mod Rows
pub mod Soundness
pub mod Unique
