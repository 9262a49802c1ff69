pub mod Bits
pub mod Lists
pub mod Promise
pub mod Tests
