pub mod Expressions
pub mod Tables
pub mod Plans
