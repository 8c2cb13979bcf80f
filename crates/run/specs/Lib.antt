pub mod Keeps
pub mod Turn
pub mod Layout
pub mod Words
pub mod Cells
pub mod Bits
pub mod Run
pub mod Demands
