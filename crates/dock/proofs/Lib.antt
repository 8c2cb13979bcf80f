pub mod Phases
pub mod Giving
pub mod Keeping
pub mod Laws
