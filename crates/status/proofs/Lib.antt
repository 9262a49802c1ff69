pub mod FirstBad
pub mod RoundTrip
pub mod Unique
