pub mod Words
pub mod Answers
pub mod Turns
pub mod Pieces
pub mod Phases
