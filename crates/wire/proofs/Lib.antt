pub mod Words
pub mod Stand
