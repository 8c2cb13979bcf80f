pub mod Layouts
pub mod Places
pub mod Frames
pub mod Clearing
pub mod Determined
