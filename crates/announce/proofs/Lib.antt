pub mod Weighing
pub mod Numbers
pub mod Scans
pub mod Acceptance
pub mod Room
pub mod Determined
