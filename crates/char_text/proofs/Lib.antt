pub mod Fractions
pub mod Hexadecimal
pub mod Lengths
pub mod Letters
pub mod Printing
pub mod ReadBack
pub mod Values
