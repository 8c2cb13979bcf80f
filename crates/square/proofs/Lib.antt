pub mod Sizes
pub mod Cells
pub mod Rows
pub mod Tested
pub mod Weighed
pub mod Rise
pub mod Determined
