pub mod Certificate
pub mod Forgotten
pub mod Tally
pub mod Line
