pub mod Account
pub mod Grid
pub mod Properties
pub mod Sound
pub mod State
