pub mod Types
pub mod Operators
pub mod Typing
pub mod Graph
pub mod Accepted
pub mod Words
