pub mod Fronts
pub mod Passed
pub mod Alike
pub mod Enders
pub mod Opened
pub mod Counted
