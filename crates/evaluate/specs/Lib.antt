pub mod Evaluation
pub mod Turns
