pub mod Releases
pub mod Moved
