pub mod Fronts
pub mod Places
pub mod Reading
pub mod Stored
