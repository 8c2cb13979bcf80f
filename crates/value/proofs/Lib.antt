pub mod Images
pub mod Operators
