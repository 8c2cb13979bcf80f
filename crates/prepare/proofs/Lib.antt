pub mod Announcing
pub mod Rooms
pub mod Held
pub mod Vouched
pub mod Accepted
pub mod Rows
pub mod Determined
