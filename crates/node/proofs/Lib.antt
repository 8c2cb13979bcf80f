pub mod Offsets
pub mod Faults
pub mod Rules
pub mod Standing
pub mod Nodes
pub mod Heads
pub mod Tabulated
pub mod Determined
