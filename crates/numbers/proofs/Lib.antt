pub mod Past
pub mod Determined
