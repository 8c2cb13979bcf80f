pub mod Expressions
pub mod Models
pub mod Graph
pub mod Schedule
