pub mod Columns
pub mod Joins
pub mod Printing
pub mod Texts
