pub mod Walks
pub mod Cycles
pub mod Longest
pub mod Schedule
