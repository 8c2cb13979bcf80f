pub mod Words
pub mod Trees
pub mod Source
pub mod Shape
pub mod Bytes
pub mod Written
pub mod Nodes
pub mod Tables
