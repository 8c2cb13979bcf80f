pub mod References
pub mod Heads
pub mod Leaves
pub mod Operands
pub mod Steps
pub mod Turns
pub mod Determined
