pub mod Spelt
pub mod Texts
pub mod Factors
