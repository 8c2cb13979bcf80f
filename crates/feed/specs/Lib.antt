pub mod Head
pub mod Printed
pub mod Stands
pub mod Program
pub mod Listing
