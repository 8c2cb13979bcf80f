pub mod Vouching
pub mod Steps
