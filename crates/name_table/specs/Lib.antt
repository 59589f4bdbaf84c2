pub mod Strings
pub mod Layout
