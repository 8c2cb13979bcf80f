pub mod Equation
pub mod Pass
pub mod Whole
pub mod Determined
