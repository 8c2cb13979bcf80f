pub mod Runs
pub mod Ran
pub mod Succession
pub mod Demands
