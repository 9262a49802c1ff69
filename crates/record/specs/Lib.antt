pub mod Properties
pub mod Records
pub mod Transaction
