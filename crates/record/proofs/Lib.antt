pub mod Found
pub mod Properties
pub mod Records
pub mod Resuming
pub mod RoundTrip
pub mod Unique
