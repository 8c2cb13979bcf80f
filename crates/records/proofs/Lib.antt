pub mod Sizes
pub mod Reading
pub mod Back
pub mod Lines
