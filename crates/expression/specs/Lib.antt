pub mod Seen
pub mod Syntax
pub mod Grammar
pub mod References
pub mod Generation
pub mod Scanning
