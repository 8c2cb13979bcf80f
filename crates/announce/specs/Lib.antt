pub mod Announced
pub mod Conditions
pub mod Rows
