pub mod Tests
pub mod Refusals
pub mod Turning
pub mod Taking
pub mod Leaving
pub mod Keeping
pub mod Determined
