pub mod Forms
pub mod Stuck
pub mod Numbers
pub mod Places
pub mod Words
pub mod Answers
