pub mod Ahead
pub mod OpenLines
pub mod Cuts
pub mod Reading
pub mod Readers
