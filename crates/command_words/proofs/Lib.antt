pub mod Areas
pub mod Rows
pub mod Getters
pub mod Taken
