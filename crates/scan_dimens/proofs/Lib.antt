pub mod Letters
pub mod Strays
pub mod Amounts
pub mod ReadBack
