pub mod Written
pub mod Program
