pub mod After
pub mod Ascii
pub mod Bits
pub mod Choice
pub mod Parts
pub mod Unique
