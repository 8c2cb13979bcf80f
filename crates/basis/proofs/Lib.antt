pub mod Parts
pub mod Tests
pub mod Sums
pub mod Firsts
pub mod Rows
pub mod Edges
pub mod Written
