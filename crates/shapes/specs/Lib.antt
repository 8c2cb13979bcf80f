pub mod Ascii
pub mod Forms
pub mod Stuck
pub mod Places
pub mod Numbers
pub mod Words
