pub mod Hex
pub mod Streams
