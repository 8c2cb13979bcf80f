pub mod Kinds
pub mod Encoding
pub mod Reading
pub mod Lines
