pub mod Records
pub mod Table
pub mod Generation
pub mod Answers
pub mod Sound
pub mod TableA
