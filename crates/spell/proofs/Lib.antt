pub mod Numbers
pub mod Hex
pub mod Rows
