pub mod Mask
pub mod Certificate
pub mod Forgetting
pub mod Tally
pub mod Line
pub mod Verdict
pub mod Determined
