pub mod Lines
pub mod Decimal
pub mod Lengths
pub mod Unique
