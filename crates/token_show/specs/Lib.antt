pub mod Options
pub mod Walks
pub mod Views
pub mod Texts
pub mod Bytes
