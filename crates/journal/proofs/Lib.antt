pub mod Example
pub mod Headers
pub mod History
pub mod Left
pub mod Pieces
pub mod RoundTrip
pub mod Unique
pub mod Whole
