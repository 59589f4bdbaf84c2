pub mod Skipping
pub mod Limits
pub mod Choices
pub mod Open
pub mod Same
pub mod Laws
pub mod Worked
