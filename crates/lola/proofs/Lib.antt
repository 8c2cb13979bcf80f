pub mod Choices
pub mod References
pub mod Schedules
pub mod Graph
pub mod Acceptance
pub mod Existence
