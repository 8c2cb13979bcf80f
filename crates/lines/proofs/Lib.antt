pub mod Decimals
pub mod Lengths
pub mod Hex
