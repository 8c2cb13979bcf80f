pub mod Refusing
pub mod Answering
pub mod Running
pub mod Back
pub mod Unread
pub mod Demands
