pub mod Fits
pub mod Fronts
pub mod Moving
pub mod Sessions
pub mod Unique
