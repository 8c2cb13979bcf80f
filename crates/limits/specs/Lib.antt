pub mod Limits
pub mod Refusals
pub mod Faults
