pub mod Phases
pub mod Refusals
pub mod Turns
pub mod Calls
