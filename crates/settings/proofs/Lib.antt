pub mod Bytes
pub mod Properties
pub mod Sound
pub mod Tests
pub mod Writes
pub mod Unique
