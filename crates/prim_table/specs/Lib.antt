pub mod Primitives
pub mod Words
