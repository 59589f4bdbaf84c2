pub mod Given
pub mod Plain
pub mod Reported
pub mod Taken
