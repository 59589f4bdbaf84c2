pub mod Rows
pub mod Decoding
pub mod Sorts
pub mod Reading
pub mod Joins
pub mod Frames
pub mod Whole
pub mod Names
