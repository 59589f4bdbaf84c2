pub mod Meanings
pub mod Telling
pub mod Texts
